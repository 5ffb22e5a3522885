use Rattle.cl_set.proofs.Turns.{turns-kept}
use Rattle.cl_set.proofs.laws.each_turn_is_kept.Goals as goal

pub returns : goal.returns
returns c = record { kept = turns-kept }
