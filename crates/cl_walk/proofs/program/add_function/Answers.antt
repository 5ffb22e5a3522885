use Rattle.std.proofs.Common.{◌≡◌, ◌∙◌, ◌∷◌, ◌++◌, [], refl, ap, length, List, nat_eq}
use Rattle.std.specs.Cmp.Lexicographic.{pointwise}
use Rattle.indexmap.specs.IndexMap.{get}
use Rattle.cl_state.specs.Views.{first_or}
use Rattle.cl_walk.specs.declared.program.Callable.{Callable}
use Rattle.cl_walk.proofs.GroundCallables.{one_more_listed}
use Rattle.cl_walk.proofs.program.add_function.Goals as goal

pub returns : goal.returns
returns c fs listed =
    let before : c.in-Ok.number ≡ length c.args.functions.now.items = c.in-Ok.ensures.1 ∙ (c.len.ensures ∙ c.args.functions.now.ok.0) in
    let after : c.len-2.result ≡ length c.args.functions.now.items = c.len-2.ensures ∙ (c.reserve.new.self.ok.0 ∙ ap length c.reserve.ensures.items) in
    let own : Callable = record { function = c.args.function; number = c.in-Ok.number; cells = c.frame_cells.result } in
    one_more_listed c.args.scope.now fs c.args.functions.now.items c.push_reserved.new.self.items c.args.function.now own _ _ listed refl before c.frame_cells.ensures
    (c.push_reserved.ensures.items ∙ ap (λ (ys : List Callable). ys ++ own ∷ []) c.reserve.ensures.items)
    (λ q.
    let kept = get (λ a b. pointwise nat_eq a.now b.now) c.args.places.now q in
    c.in_ok-note.ensures q ∙ (ap (λ name. first_or name c.len-2.result q.now kept) c.as_slice.ensures ∙ ap (λ n. first_or c.args.function.now.name.bytes n q.now kept) after))
