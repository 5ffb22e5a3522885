use Rattle.std.proofs.Common.{◌≤◌, ◌-◌, drop, length}
use Rattle.cl_vm.specs.Printing.{CountsOn}
use Rattle.cl_vm.proofs.output.count_numbers.Given as goal

abbrev pub invariant-pieces : goal.invariant-pieces
invariant-pieces l = CountsOn l.text (drop l.i l.text) l.k × (l.i ≤ length l.text) × (l.k ≤ l.i)

abbrev pub decreases-pieces : goal.decreases-pieces
decreases-pieces l = length l.text - l.i
