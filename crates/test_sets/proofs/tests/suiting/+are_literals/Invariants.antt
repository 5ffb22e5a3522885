use Rattle.std.proofs.Common.{length}
use Rattle.test_sets.proofs.tests.suiting.+are_literals.Given as goal

abbrev pub decreases-are_literals : goal.decreases-are_literals
decreases-are_literals l = length l.marks.now
