use Rattle.std.proofs.Common.{◌∙◌, ◌≤◌, ◌-◌, ℕ, List, ap, sym, subst, length, drop, take}
use Rattle.std.specs.Prelude.{ℤ, reverse}
use Rattle.std.proofs.lemmas.List.{take_rest}
use Rattle.cl_vm.specs.Memory.{Memory}
use Rattle.cl_vm.specs.MemoryViews.{memory_of}
use Rattle.cl_vm.proofs.Lists.{top_is}
use Rattle.cl_vm.proofs.memory.Memory.top.Goals as goal

pub returns : goal.returns
returns c =
    let v = c.self.view_is in
    let enough : c.args.count ≤ length (memory_of c.self.inside).stack = subst (λ (m : Memory). c.args.count ≤ length m.stack) (sym v) c.requires in
    take_rest c.deref.result.now (c.len.result - c.args.count)
    ∙ ap (λ (xs : List ℤ). drop (c.len.result - c.args.count) xs) c.deref.ensures.value
    ∙ ap (λ (n : ℕ). drop (n - c.args.count) c.self.inside.numbers.items) c.len.ensures
    ∙ top_is c.self.inside c.args.count c.self.invariant enough
    ∙ ap (λ (m : Memory). reverse (take c.args.count m.stack)) v
