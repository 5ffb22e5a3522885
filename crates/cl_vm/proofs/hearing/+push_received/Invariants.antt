use Rattle.std.proofs.Common.{length}
use Rattle.cl_vm.proofs.hearing.+push_received.Given as goal

abbrev pub decreases-push_received : goal.decreases-push_received
decreases-push_received l = length l.marks.now
