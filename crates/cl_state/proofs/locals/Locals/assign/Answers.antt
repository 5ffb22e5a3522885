use Rattle.std.proofs.Common.{◌≡◌, ◌∙◌, length, sym, ap, arith, Some}
use Rattle.std.specs.Prelude.{slice_get, slice_set}
use Rattle.std.specs.List.{list_any}
use Rattle.std.proofs.lemmas.Option.{get_or_from_slice_get}
use Rattle.cl_meaning.specs.Variables.{Scope, has, set_from, with_element}
use Rattle.cl_state.specs.Views.{innermost}
use Rattle.cl_state.proofs.Places.{stands_inside, lacks_inside}
use Rattle.cl_state.proofs.locals.Locals.assign.Goals as goal

pub index_mut-requires : goal.index_mut-requires
index_mut-requires c =
    let st = stands_inside c.args.name.now c.in-Some.scope c.in-Some.index c.self.inside.scopes.items (sym (c.in-Some.ensures ∙ ap (innermost c.args.name.now) c.deref.ensures.value)) in
    let within = st.scope_within in
    let long = c.self.inside.scopes.ok.0 in
    omega (arith, within, long)

pub set-requires : goal.set-requires
set-requires c =
    let st = stands_inside c.args.name.now c.in-Some.scope c.in-Some.index c.self.inside.scopes.items (sym (c.in-Some.ensures ∙ ap (innermost c.args.name.now) c.deref.ensures.value)) in
    let same = c.index_mut.ensures.value ∙ get_or_from_slice_get c.self.inside.scopes.items c.in-Some.scope st.scope c.index_mut.result.now st.scope_at in
    let within = st.inside.within in
    let equal = ap (λ (s : Scope). length s) same in
    omega (arith, within, equal)

pub returns-in-Some-clause-told : goal.returns-in-Some-clause-told
returns-in-Some-clause-told c =
    let st = stands_inside c.args.name.now c.in-Some.scope c.in-Some.index c.self.inside.scopes.items (sym (c.in-Some.ensures ∙ ap (innermost c.args.name.now) c.deref.ensures.value)) in
    sym (ap (list_any (has c.args.name.now)) (sym c.self.view_is) ∙ st.there)

pub returns-in-Some-clause-changed : goal.returns-in-Some-clause-changed
returns-in-Some-clause-changed c =
    let name = c.args.name.now in
    let st = stands_inside name c.in-Some.scope c.in-Some.index c.self.inside.scopes.items (sym (c.in-Some.ensures ∙ ap (innermost name) c.deref.ensures.value)) in
    let same = c.index_mut.ensures.value ∙ get_or_from_slice_get c.self.inside.scopes.items c.in-Some.scope st.scope c.index_mut.result.now st.scope_at in
    let change = with_element c.args.at c.args.value in
    let at : slice_get c.index_mut.result.now c.in-Some.index ≡ Some st.inside.variable = ap (λ (s : Scope). slice_get s c.in-Some.index) same ∙ st.inside.at in
    let set = c.set.ensures st.inside.variable at ∙ (ap (λ (s : Scope). slice_set s c.in-Some.index (change st.inside.variable)) same ∙ st.inside.set change) in
    ap (slice_set c.self.inside.scopes.items c.in-Some.scope) set ∙ (st.set change ∙ ap (set_from name change) c.self.view_is)

pub returns-in-None-clause-told : goal.returns-in-None-clause-told
returns-in-None-clause-told c =
    let l = lacks_inside c.args.name.now c.self.inside.scopes.items (sym (c.in-None.ensures ∙ ap (innermost c.args.name.now) c.deref.ensures.value)) in
    sym (ap (list_any (has c.args.name.now)) (sym c.self.view_is) ∙ l.absent)
