use Rattle.std.proofs.Common.{refl}
use Rattle.test_machine.proofs.TestRows.{is_right_by, one_function}
use Rattle.test_machine.proofs.tests.operations.tries.Goals as goal

pub program_of-requires : goal.program_of-requires
program_of-requires c = is_right_by _ _ _ _ _ _ _ _ _ _ (one_function _ c.in_ok-functions.ensures c.in_ok-main.ensures) c.in_ok-producer.ensures c.in_ok-consumer.ensures refl
