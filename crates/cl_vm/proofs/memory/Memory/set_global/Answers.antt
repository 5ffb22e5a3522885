use Rattle.std.proofs.Common.{◌∙◌, ◌<◌, ap, w64, arith, length, length-take}
use Rattle.std.proofs.lemmas.Int.{to_z-of_z}
use Rattle.cl_vm.specs.Memory.{Memory, with_global}
use Rattle.cl_vm.proofs.Lists.{global_set}
use Rattle.cl_vm.proofs.memory.Memory.set_global.Goals as goal

pub returns : goal.returns
returns c =
    let e = ap (λ (m : Memory). length m.globals) c.self.view_is in
    let t = length-take c.self.inside.globals c.self.inside.cells.items in
    let h : c.args.k < c.self.inside.globals = omega (arith, e, t) in
    rw (to_z-of_z w64 c.args.n c.ranges.n) (global_set c.self.inside c.args.k c.args.n c.self.invariant h ∙ ap (with_global c.args.k c.args.n) c.self.view_is)
