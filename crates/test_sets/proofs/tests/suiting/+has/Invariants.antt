use Rattle.std.proofs.Common.{length}
use Rattle.test_sets.proofs.tests.suiting.+has.Given as goal

abbrev pub decreases-has : goal.decreases-has
decreases-has l = length l.sites.now
