use Rattle.cl_merge.proofs.Carrying.{carry_over}
use Rattle.cl_merge.proofs.laws.good_runs_carry_over.Goals as goal

pub returns : goal.returns
returns c = record { carry = carry_over }
