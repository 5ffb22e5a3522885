use Rattle.clinda.proofs.Clauses.{widens}
use Rattle.clinda.proofs.laws.each_answer_widens.Goals as goal

pub returns : goal.returns
returns c = widens
