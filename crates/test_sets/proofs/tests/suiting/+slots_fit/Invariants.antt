use Rattle.std.proofs.Common.{length}
use Rattle.test_sets.proofs.tests.suiting.+slots_fit.Given as goal

abbrev pub decreases-slots_fit : goal.decreases-slots_fit
decreases-slots_fit l = length l.marks.now
