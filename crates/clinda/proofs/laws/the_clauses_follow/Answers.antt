use Rattle.clinda.proofs.Clauses.{clauses}
use Rattle.clinda.proofs.Fine.{each_fine}
use Rattle.clinda.proofs.laws.the_clauses_follow.Goals as goal

pub returns : goal.returns
returns c = clauses each_fine
