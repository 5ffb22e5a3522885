use Rattle.std.proofs.Common.{[], ◌∷◌}
use Rattle.test_sets.proofs.Shapes.{shape}
use Rattle.test_sets.proofs.tests.tickets.child_fails_first.Given as goal

abbrev pub ghosts-a_failure : goal.ghosts-a_failure
ghosts-a_failure a = record { table = a.blank.table; shapes = shape ∷ []; entries = a.limit }
