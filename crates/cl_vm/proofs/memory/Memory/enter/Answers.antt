use Rattle.std.proofs.Common.{rules, ◌≡◌, ◌≤◌, ◌<◌, ◌-◌, ◌+◌, ◌++◌, ℕ, List, sym, ◌∙◌, ap, subst, length, take, drop}
use Rattle.std.specs.Prelude.{ℤ, pos, replicate, vec_len}
use Rattle.std.proofs.lemmas.List.{take_rest}
use Rattle.cl_vm.specs.Memory.{Memory, with_entered}
use Rattle.cl_vm.specs.MemoryViews.{memory_of}
use Rattle.cl_vm.proofs.Lists.{entered_is}
use Rattle.cl_vm.proofs.memory.Memory.enter.Goals as goal

pub returns : goal.returns
returns c =
    let v = c.self.view_is in
    let a : c.args.count ≤ length (memory_of c.self.inside).stack = subst (λ (m : Memory). c.args.count ≤ length m.stack) (sym v) c.requires.arguments in
    let s : c.args.size ≤ (memory_of c.self.inside).cell_room = subst (λ (m : Memory). c.args.size ≤ m.cell_room) (sym v) c.requires.cells in
    let f : 0 < (memory_of c.self.inside).frame_room = subst (λ (m : Memory). 0 < m.frame_room) (sym v) c.requires.frames in
    let rest : take (length c.deref.result.now - (c.len.result - c.args.count)) (drop (c.len.result - c.args.count) c.deref.result.now) ≡ drop (vec_len c.self.inside.numbers - c.args.count) c.self.inside.numbers.items =
    take_rest c.deref.result.now (c.len.result - c.args.count) ∙ ap (λ (xs : List ℤ). drop (c.len.result - c.args.count) xs) c.deref.ensures.value ∙ ap (λ (n : ℕ). drop (n - c.args.count) c.self.inside.numbers.items) c.len.ensures in
    let items = c.append_zeros.ensures.items ∙ ap (λ (xs : List ℤ). xs ++ replicate (c.args.size - c.args.count) (pos 0)) (c.append.ensures.items ∙ ap (λ (xs : List ℤ). c.self.inside.cells.items ++ xs) rest) in
    let long = c.append_zeros.ensures.len ∙ ap (λ (n : ℕ). n + (c.args.size - c.args.count)) (c.append.ensures.len ∙ ap (λ (xs : List ℤ). vec_len c.self.inside.cells + length xs) rest) in
    let taken = c.truncate.ensures.items ∙ ap (λ (n : ℕ). take (n - c.args.count) c.self.inside.numbers.items) c.len.ensures in
    let short = rw c.len.ensures at c.truncate.ensures.len in
    rw (c.len-start.ensures, c.len.ensures)
    (entered_is c.self.inside c.args.place c.args.claimed c.args.count c.args.size c.push_reserved.new.self c.append_zeros.new.cells c.truncate.new.self c.self.invariant a c.requires.size s f
    c.push_reserved.ensures.items c.push_reserved.ensures.len c.push_reserved.ensures.capacity
    items long (search rules)
    taken short c.truncate.ensures.capacity
    ∙ ap (with_entered c.args.place c.args.claimed c.args.count c.args.size) v)
