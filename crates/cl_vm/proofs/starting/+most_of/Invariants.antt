use Rattle.std.proofs.Common.{length}
use Rattle.cl_vm.proofs.starting.+most_of.Given as goal

abbrev pub decreases-most_of : goal.decreases-most_of
decreases-most_of l = length l.functions.now
