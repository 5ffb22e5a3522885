use Rattle.cl_answered.proofs.Steps.{operations_are_demanded, finishes_are_demanded, traps_are_demanded}
use Rattle.cl_answered.proofs.laws.each_answer_is_demanded.Goals as goal

pub returns-clause-operations : goal.returns-clause-operations
returns-clause-operations c = operations_are_demanded

pub returns-clause-finishes : goal.returns-clause-finishes
returns-clause-finishes c = finishes_are_demanded

pub returns-clause-traps : goal.returns-clause-traps
returns-clause-traps c = traps_are_demanded
