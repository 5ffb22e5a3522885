use Rattle.cl_code.proofs.Heights.{heights_are_met, jumps_right, stacks_are_low}
use Rattle.cl_code.proofs.laws.each_height_is_met.Goals as goal

pub returns-clause-heights : goal.returns-clause-heights
returns-clause-heights c = heights_are_met

pub returns-clause-jumps : goal.returns-clause-jumps
returns-clause-jumps c = jumps_right

pub returns-clause-stacks : goal.returns-clause-stacks
returns-clause-stacks c = stacks_are_low
