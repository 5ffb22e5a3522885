use Rattle.std.proofs.Common.{arith}
use Rattle.cl_vm.proofs.buffers.Buffers.land.Goals as goal

pub push_all-requires : goal.push_all-requires
push_all-requires c =
    let (widest, ready) = c.requires.ready in
    let cleared = c.clear.ensures widest ready in
    omega (arith, cleared.lists.values, c.clear-2.ensures.spare, c.requires.few)
