use Rattle.cl_set.proofs.Turns.{counter-free}
use Rattle.cl_set.proofs.laws.a_counter_never_compares.Goals as goal

pub returns : goal.returns
returns c = record { compares = counter-free }
