use Rattle.cl_limits.proofs.Loops.{each_loop_goes_round}
use Rattle.cl_limits.proofs.ticks.each_loop_goes_round.Goals as goal

pub returns : goal.returns
returns c = record { loops = each_loop_goes_round }
