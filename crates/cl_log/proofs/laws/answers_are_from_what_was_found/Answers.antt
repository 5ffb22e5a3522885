use Rattle.cl_log.proofs.Answers.{answer-from-found}
use Rattle.cl_log.proofs.laws.answers_are_from_what_was_found.Goals as goal

pub returns : goal.returns
returns c = answer-from-found
