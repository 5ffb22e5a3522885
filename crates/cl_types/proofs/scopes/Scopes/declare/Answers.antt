use Rattle.std.proofs.Common.{◌∙◌, [], ◌∷◌, ◌++◌, ap, sym, List, length, nat_eq}
use Rattle.std.specs.Cmp.Lexicographic.{pointwise}
use Rattle.std.specs.HashMap.{get}
use Rattle.cl_types.specs.declared.scopes.Entry.{Entry}
use Rattle.cl_types.specs.Newest.{looked_up}
use Rattle.cl_types.proofs.Lookups.{pushed}
use Rattle.cl_types.proofs.scopes.Scopes.declare.Goals as goal

pub invariant_of-self-2 : goal.invariant_of-self-2
invariant_of-self-2 c =
    let e : Entry = record { name = c.args.name; what = c.args.what; older = c.looked_up-older.result } in
    pushed c.self.inside.start c.self.inside.entries.items c.push_reserved.new.self.items e c.len-place.result
    (λ q. get (λ a b. pointwise nat_eq a.now b.now) c.self.inside.newest q) (λ q. get (λ a b. pointwise nat_eq a.now b.now) c.insert.new.self q)
    (c.push_reserved.ensures.items ∙ ap (λ (ys : List Entry). ys ++ e ∷ []) c.reserve.ensures.items)
    (sym (c.len-place.ensures ∙ (c.reserve.new.self.ok.0 ∙ ap length c.reserve.ensures.items)))
    c.self.invariant c.in_ok-insert.ensures.updates.0 (c.looked_up-older.ensures ∙ ap looked_up c.in_ok-insert.ensures.old)
