use Rattle.std.proofs.Common.{length}
use Rattle.test_machine.proofs.tests.trial.+accepts_all.Given as goal

abbrev pub decreases-accepts_all : goal.decreases-accepts_all
decreases-accepts_all l = length l.slots.now
