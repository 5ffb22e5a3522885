use Rattle.std.proofs.Common.{◌≡◌, ◌∙◌, length, sym, ap, arith, Some}
use Rattle.std.specs.Prelude.{slice_get}
use Rattle.std.proofs.lemmas.Option.{get_or_from_slice_get}
use Rattle.cl_meaning.specs.Variables.{Scope, found_from}
use Rattle.cl_state.specs.Views.{variable_of, innermost}
use Rattle.cl_state.proofs.Places.{stands_inside, lacks_inside}
use Rattle.cl_state.proofs.locals.Locals.find.Goals as goal

pub index-requires : goal.index-requires
index-requires c =
    let st = stands_inside c.args.name.now c.in-Some.scope c.in-Some.index c.self.inside.scopes.items (sym (c.in-Some.ensures ∙ ap (innermost c.args.name.now) c.deref.ensures.value)) in
    let within = st.scope_within in
    let long = c.self.inside.scopes.ok.0 in
    omega (arith, within, long)

pub variable_at-requires : goal.variable_at-requires
variable_at-requires c =
    let st = stands_inside c.args.name.now c.in-Some.scope c.in-Some.index c.self.inside.scopes.items (sym (c.in-Some.ensures ∙ ap (innermost c.args.name.now) c.deref.ensures.value)) in
    let same = c.index.ensures ∙ get_or_from_slice_get c.self.inside.scopes.items c.in-Some.scope st.scope c.index.result.now st.scope_at in
    let within = st.inside.within in
    let equal = ap (λ (s : Scope). length s) same in
    omega (arith, within, equal)

pub returns-in-Some : goal.returns-in-Some
returns-in-Some c outer =
    let st = stands_inside c.args.name.now c.in-Some.scope c.in-Some.index c.self.inside.scopes.items (sym (c.in-Some.ensures ∙ ap (innermost c.args.name.now) c.deref.ensures.value)) in
    let same = c.index.ensures ∙ get_or_from_slice_get c.self.inside.scopes.items c.in-Some.scope st.scope c.index.result.now st.scope_at in
    let at : slice_get c.index.result.now c.in-Some.index ≡ Some st.inside.variable = ap (λ (s : Scope). slice_get s c.in-Some.index) same ∙ st.inside.at in
    let there = c.variable_at.ensures in
    let is : st.inside.variable ≡ variable_of c.variable_at.result.now = cc in
    ap (λ s. found_from c.args.name.now s outer) (sym c.self.view_is) ∙ (st.found outer ∙ is)

pub returns-in-None : goal.returns-in-None
returns-in-None c outer =
    let l = lacks_inside c.args.name.now c.self.inside.scopes.items (sym (c.in-None.ensures ∙ ap (innermost c.args.name.now) c.deref.ensures.value)) in
    ap (λ s. found_from c.args.name.now s outer) (sym c.self.view_is) ∙ l.outside outer
