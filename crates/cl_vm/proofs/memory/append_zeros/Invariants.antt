use Rattle.std.proofs.Common.{◌++◌, ◌≡◌, ◌+◌, vec_len, vec_capacity, replicate, pos}
use Rattle.cl_vm.proofs.memory.append_zeros.Given as goal

abbrev pub invariant-loop : goal.invariant-loop
invariant-loop l =
    (l.cells.items ≡ l.initial.cells.items ++ replicate l.counter (pos 0))
    × (vec_len l.cells ≡ vec_len l.initial.cells + l.counter)
    × (vec_capacity l.cells ≡ vec_capacity l.initial.cells)
