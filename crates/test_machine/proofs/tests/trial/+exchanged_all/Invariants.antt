use Rattle.std.proofs.Common.{length}
use Rattle.test_machine.proofs.tests.trial.+exchanged_all.Given as goal

abbrev pub decreases-exchanged_all : goal.decreases-exchanged_all
decreases-exchanged_all l = length l.exchanges.now
