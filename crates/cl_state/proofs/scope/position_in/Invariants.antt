use Rattle.std.proofs.Common.{◌≡◌, drop}
use Rattle.cl_state.specs.Views.{scope_of, place_in, further}
use Rattle.cl_state.proofs.scope.position_in.Given as goal

abbrev pub invariant-loop-index : goal.invariant-loop-index
invariant-loop-index l = place_in l.name (scope_of l.variables) ≡ further l.index (place_in l.name (scope_of (drop l.index l.variables)))
