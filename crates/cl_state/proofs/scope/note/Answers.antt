use Rattle.std.proofs.Common.{◌≡◌, ◌∙◌, ℕ, List, sym, ap, None, nat_eq, Bor, Option}
use Rattle.cl_state.proofs.Places.{noted}
use Rattle.std.specs.Cmp.Lexicographic.{pointwise, bytes_decides}
use Rattle.indexmap.specs.IndexMap.{get, get_by}
use Rattle.cl_state.proofs.scope.note.Goals as goal

pub returns-in_ok-insert-in-None-clause-kept : goal.returns-in_ok-insert-in-None-clause-kept
returns-in_ok-insert-in-None-clause-kept c q =
    let F : List ℕ → Option ℕ = λ n. get_by (λ (b : Bor (List ℕ)). pointwise nat_eq n b.now) c.args.places.now in
    let none : F c.args.name.now ≡ None = sym c.in-None.ensures in
    noted c.args.name.now q.now c.args.place (F q.now) (get (λ a b. pointwise nat_eq a.now b.now) c.insert.new.self q) (c.in_ok-insert-in-None.ensures.updates.0 q)
    (λ same. ap F (sym ((bytes_decides c.args.name.now q.now).0 same)) ∙ none)
