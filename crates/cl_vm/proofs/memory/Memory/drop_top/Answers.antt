use Rattle.std.proofs.Common.{◌∙◌, ◌≤◌, ◌-◌, ℕ, ap, sym, subst, length, take}
use Rattle.cl_vm.specs.Memory.{Memory, with_dropped}
use Rattle.cl_vm.specs.MemoryViews.{memory_of}
use Rattle.cl_vm.proofs.Lists.{top_dropped}
use Rattle.cl_vm.proofs.memory.Memory.drop_top.Goals as goal

pub returns : goal.returns
returns c =
    let v = c.self.view_is in
    let enough : c.args.count ≤ length (memory_of c.self.inside).stack = subst (λ (m : Memory). c.args.count ≤ length m.stack) (sym v) c.requires in
    let taken = c.truncate.ensures.items ∙ ap (λ (n : ℕ). take (n - c.args.count) c.self.inside.numbers.items) c.len.ensures in
    top_dropped c.self.inside c.args.count c.self.invariant enough c.truncate.new.self taken c.truncate.ensures.capacity ∙ ap (with_dropped c.args.count) v
