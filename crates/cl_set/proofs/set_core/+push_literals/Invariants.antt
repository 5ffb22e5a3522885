use Rattle.std.proofs.Common.{length}
use Rattle.cl_set.proofs.set_core.+push_literals.Given as goal

abbrev pub decreases-push_literals : goal.decreases-push_literals
decreases-push_literals l = length l.marks.now
