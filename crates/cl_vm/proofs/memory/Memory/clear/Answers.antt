use Rattle.std.proofs.Common.{◌∙◌, ◌≤◌, ◌+◌, ap, arith, length, length-drop}
use Rattle.cl_vm.specs.Memory.{Memory, with_cleared}
use Rattle.cl_vm.proofs.Lists.{cleared_is}
use Rattle.cl_vm.proofs.memory.Memory.clear.Goals as goal

pub clear_range-requires : goal.clear_range-requires
clear_range-requires c =
    let e = ap (λ (m : Memory). length m.frame) c.self.view_is in
    let t = length-drop c.self.inside.base c.self.inside.cells.items in
    let b = c.self.invariant.base in
    omega (arith, e, t, b)

pub returns : goal.returns
returns c =
    let e = ap (λ (m : Memory). length m.frame) c.self.view_is in
    let t = length-drop c.self.inside.base c.self.inside.cells.items in
    let b = c.self.invariant.base in
    let h : c.self.inside.base + c.args.from + c.args.count ≤ length c.self.inside.cells.items = omega (arith, e, t, b) in
    cleared_is c.self.inside c.clear_range.new.cells c.args.from c.args.count c.self.invariant c.clear_range.ensures.items c.clear_range.ensures.len c.clear_range.ensures.capacity h ∙ ap (with_cleared c.args.from c.args.count) c.self.view_is
