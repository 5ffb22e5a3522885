use Rattle.test_machine.proofs.Trying.{stands_there}
use Rattle.test_machine.proofs.tests.trial.asked.Goals as goal

pub request-requires : goal.request-requires
request-requires c =
    let (start, after) = c.requires in
    stands_there start _ c.args.vm.now after.answers
