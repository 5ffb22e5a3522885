use Rattle.cl_log.proofs.Acts.{acts-again}
use Rattle.cl_log.proofs.laws.acts_are_read_as_spelled.Goals as goal

pub returns : goal.returns
returns c = acts-again
