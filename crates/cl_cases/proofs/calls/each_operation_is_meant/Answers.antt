use Rattle.cl_cases.proofs.Fields.{formals_receive, fields_hold, outs_are_complete, evals_are_evaluated}
use Rattle.cl_cases.proofs.Listed.{each_is_listed}
use Rattle.cl_cases.proofs.Operands.{tuples_fill}
use Rattle.cl_cases.proofs.Replies.{replies_may_be_told}
use Rattle.cl_cases.proofs.calls.each_operation_is_meant.Goals as goal

pub returns-clause-formals : goal.returns-clause-formals
returns-clause-formals c = formals_receive

pub returns-clause-fields : goal.returns-clause-fields
returns-clause-fields c = fields_hold

pub returns-clause-outs : goal.returns-clause-outs
returns-clause-outs c = outs_are_complete

pub returns-clause-evals : goal.returns-clause-evals
returns-clause-evals c = evals_are_evaluated

pub returns-clause-replies : goal.returns-clause-replies
returns-clause-replies c = replies_may_be_told

pub returns-clause-tuples : goal.returns-clause-tuples
returns-clause-tuples c = tuples_fill

pub returns-clause-listed : goal.returns-clause-listed
returns-clause-listed c = each_is_listed
