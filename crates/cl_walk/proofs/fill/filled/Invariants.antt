use Rattle.std.proofs.Common.{◌≡◌, ◌++◌, length}
use Rattle.cl_meaning.specs.Printing as printing
use Rattle.cl_walk.proofs.fill.filled.Given as goal

abbrev pub invariant-loop-part : goal.invariant-loop-part
invariant-loop-part l = l.all.items ++ printing.filled l.left l.values ≡ printing.filled l.initial.left l.initial.values

abbrev pub decreases-loop-part : goal.decreases-loop-part
decreases-loop-part l = length l.left
