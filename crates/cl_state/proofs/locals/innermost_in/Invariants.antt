use Rattle.std.proofs.Common.{◌≡◌, ◌≤◌, drop, length, None}
use Rattle.cl_state.specs.Views.{innermost}
use Rattle.cl_state.proofs.locals.innermost_in.Given as goal

abbrev pub invariant-loop-inner : goal.invariant-loop-inner
invariant-loop-inner l = (l.inner ≤ length l.scopes) × (innermost l.name (drop l.inner l.scopes) ≡ None)

abbrev pub decreases-loop-inner : goal.decreases-loop-inner
decreases-loop-inner l = l.inner
