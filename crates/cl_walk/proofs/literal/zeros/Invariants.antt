use Rattle.std.proofs.Common.{◌≡◌, replicate}
use Rattle.cl_meaning.specs.Operators as operators
use Rattle.cl_walk.proofs.literal.zeros.Given as goal

abbrev pub invariant-loop : goal.invariant-loop
invariant-loop l = l.values.items ≡ replicate l.counter (operators.zero_of l.of)
