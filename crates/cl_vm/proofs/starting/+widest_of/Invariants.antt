use Rattle.std.proofs.Common.{length}
use Rattle.cl_vm.proofs.starting.+widest_of.Given as goal

abbrev pub decreases-widest_of : goal.decreases-widest_of
decreases-widest_of l = length l.functions.now
