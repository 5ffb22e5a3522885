use Rattle.std.proofs.Common.{◌++◌, ◌≡◌, ◌+◌, take, vec_len, vec_capacity}
use Rattle.cl_vm.proofs.memory.append.Given as goal

abbrev pub invariant-loop-n : goal.invariant-loop-n
invariant-loop-n l =
    (l.cells.items ≡ l.initial.cells.items ++ take l.n-index l.numbers)
    × (vec_len l.cells ≡ vec_len l.initial.cells + l.n-index)
    × (vec_capacity l.cells ≡ vec_capacity l.initial.cells)
