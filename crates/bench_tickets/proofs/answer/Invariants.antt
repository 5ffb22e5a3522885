use Rattle.std.proofs.Common.{[], ◌∷◌}
use Rattle.bench_tickets.proofs.Shapes.{shape}
use Rattle.bench_tickets.proofs.answer.Given as goal

abbrev pub ghosts-run : goal.ghosts-run
ghosts-run g a = record { table = a.blank.table; shapes = shape ∷ shape ∷ shape ∷ shape ∷ []; entries = 16777216 }
