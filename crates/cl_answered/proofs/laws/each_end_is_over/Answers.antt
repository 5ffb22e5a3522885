use Rattle.cl_answered.proofs.Steps.{main_is_over, landed_are_over}
use Rattle.cl_answered.proofs.laws.each_end_is_over.Goals as goal

pub returns-clause-main : goal.returns-clause-main
returns-clause-main c = main_is_over

pub returns-clause-landed : goal.returns-clause-landed
returns-clause-landed c = landed_are_over
