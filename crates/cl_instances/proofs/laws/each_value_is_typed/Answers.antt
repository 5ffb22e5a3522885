use Rattle.cl_typing.proofs.Process.{functions_have_scenes, statements_lead, scopes_are_entered, values_are_typed, statements_keep, demands_fit, evals_are_shallow, evals_fit}
use Rattle.cl_instances.proofs.laws.each_value_is_typed.Goals as goal

pub returns-clause-functions : goal.returns-clause-functions
returns-clause-functions c = functions_have_scenes

pub returns-clause-behind : goal.returns-clause-behind
returns-clause-behind c = statements_lead

pub returns-clause-entered : goal.returns-clause-entered
returns-clause-entered c = scopes_are_entered

pub returns-clause-values : goal.returns-clause-values
returns-clause-values c = values_are_typed

pub returns-clause-statements : goal.returns-clause-statements
returns-clause-statements c = statements_keep

pub returns-clause-demands : goal.returns-clause-demands
returns-clause-demands c = demands_fit

pub returns-clause-shallow : goal.returns-clause-shallow
returns-clause-shallow c = evals_are_shallow

pub returns-clause-starts : goal.returns-clause-starts
returns-clause-starts c = evals_fit
