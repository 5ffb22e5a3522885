use Rattle.cl_usage.proofs.LawProofs.{tuple_matches}
use Rattle.cl_usage.proofs.laws.each_tuple_matches.Goals as goal

pub returns : goal.returns
returns c = record { matches = tuple_matches }
