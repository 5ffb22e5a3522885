use Rattle.std.proofs.Common.{◌≡◌, ◌≤◌, ◌-◌, take, drop, length, vec_capacity}
use Rattle.cl_vm.specs.Printing.{PrintsOn}
use Rattle.cl_vm.proofs.output.print_text.Given as goal

abbrev pub invariant-pieces : goal.invariant-pieces
invariant-pieces l =
    PrintsOn l.initial.output.items l.output.items l.text (drop l.i l.text) l.numbers (drop l.k l.numbers)
    × (take (length l.initial.output.items) l.output.items ≡ l.initial.output.items)
    × (vec_capacity l.output ≡ vec_capacity l.initial.output)
    × (l.i ≤ length l.text)
    × (l.k ≤ length l.numbers)

abbrev pub decreases-pieces : goal.decreases-pieces
decreases-pieces l = length l.text - l.i
