use Rattle.std.proofs.Common.{[], ◌∷◌}
use Rattle.test_sets.proofs.Shapes.{shape}
use Rattle.test_sets.proofs.tests.tickets.drawn_by_four.Given as goal

abbrev pub ghosts-four : goal.ghosts-four
ghosts-four g a = record { table = a.blank.table; shapes = shape ∷ shape ∷ shape ∷ shape ∷ []; entries = a.limit }
