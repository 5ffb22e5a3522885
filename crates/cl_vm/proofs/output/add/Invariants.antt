use Rattle.std.proofs.Common.{◌++◌, ◌≡◌, ◌+◌, take, vec_len, vec_capacity}
use Rattle.cl_vm.proofs.output.add.Given as goal

abbrev pub invariant-loop-byte : goal.invariant-loop-byte
invariant-loop-byte l =
    (l.output.items ≡ l.initial.output.items ++ take l.byte-index l.bytes)
    × (vec_len l.output ≡ vec_len l.initial.output + l.byte-index)
    × (vec_capacity l.output ≡ vec_capacity l.initial.output)
