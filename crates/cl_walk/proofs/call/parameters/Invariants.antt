use Rattle.std.proofs.Common.{◌≡◌, ◌∷◌, []}
use Rattle.cl_meaning.specs.Calls.{parameters}
use Rattle.cl_walk.specs.Views.{scope_in}
use Rattle.cl_walk.proofs.Arguments.{Taking}
use Rattle.cl_walk.proofs.call.parameters.Given as goal

abbrev pub invariant-loop-i : goal.invariant-loop-i
invariant-loop-i l = record { taken : Taking parameters l.all l.values l.i (scope_in l.locals); alone : l.locals ≡ scope_in l.locals ∷ [] }
