use Rattle.cl_joined.proofs.Joins.{joined_runs_are_good, joined_runs_carry_over}
use Rattle.cl_joined.proofs.laws.joined_runs_are_good.Goals as goal

pub returns-clause-good : goal.returns-clause-good
returns-clause-good c = joined_runs_are_good

pub returns-clause-carry : goal.returns-clause-carry
returns-clause-carry c = joined_runs_carry_over
