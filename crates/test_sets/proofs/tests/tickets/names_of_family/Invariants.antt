use Rattle.std.proofs.Common.{[], ◌∷◌}
use Rattle.test_sets.proofs.Shapes.{shape}
use Rattle.test_sets.proofs.tests.tickets.names_of_family.Given as goal

abbrev pub ghosts-family : goal.ghosts-family
ghosts-family a = record { table = a.blank.table; shapes = shape ∷ []; entries = a.limit }
