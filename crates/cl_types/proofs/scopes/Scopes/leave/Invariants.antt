use Rattle.std.proofs.Common.{◌≡◌, length}
use Rattle.cl_types.proofs.scopes.Scopes.leave.Given as goal

abbrev pub invariant-loop-self : goal.invariant-loop-self
invariant-loop-self l = (l.self.around ≡ l.initial.self.around) × (l.self.functions ≡ l.initial.self.functions)

abbrev pub decreases-loop-self : goal.decreases-loop-self
decreases-loop-self l = length l.self.here
