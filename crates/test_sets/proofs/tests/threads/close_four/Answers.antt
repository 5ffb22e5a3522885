use Rattle.std.proofs.Common.{arith}
use Rattle.cl_ticket.proofs.CloseLaws.{drawn-once}
use Rattle.test_sets.proofs.tests.threads.close_four.Goals as goal

pub returns : goal.returns
returns g c = record { once = drawn-once _ _ _ (let e = c.close.ensures.next in omega arith) c.close.ensures.ruled }
