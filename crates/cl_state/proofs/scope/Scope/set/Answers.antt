use Rattle.std.proofs.Common.{◌≡◌, ◌∙◌, length, sym, ap, arith}
use Rattle.std.specs.Prelude.{slice_get, slice_set}
use Rattle.cl_meaning.specs.Variables as plain
use Rattle.cl_meaning.specs.Variables.{Scope, with_element}
use Rattle.cl_state.specs.declared.scope.TheConstants.{FEW}
use Rattle.cl_state.specs.Views.{variable_of, scope_of, further}
use Rattle.cl_state.proofs.Places.{got, set_seen, get_seen, place_set_behind, length_seen}
use Rattle.cl_state.proofs.scope.Scope.set.Goals as goal

pub invariant_of-self : goal.invariant_of-self
invariant_of-self c q =
    let all = c.self.inside.variables.items in
    let seen = length_seen all in
    let long : length c.args.self.now ≡ length all = ap (λ (s : Scope). length s) (sym c.self.view_is) ∙ seen in
    let at = got all c.args.place c.index_mut.result.now (omega (arith, c.requires, long)) c.index_mut.ensures.value in
    let named = ap (λ (v : plain.Variable). v.name) c.set_element.ensures in
    c.self.invariant q ∙ sym (ap (further FEW) (place_set_behind q.now FEW all c.args.place c.index_mut.result.now c.set_element.new.variable at named))

pub returns : goal.returns
returns c v is =
    let all = c.self.inside.variables.items in
    let seen = length_seen all in
    let long : length c.args.self.now ≡ length all = ap (λ (s : Scope). length s) (sym c.self.view_is) ∙ seen in
    let at = got all c.args.place c.index_mut.result.now (omega (arith, c.requires, long)) c.index_mut.ensures.value in
    let now = get_seen all c.args.place c.index_mut.result.now at in
    let then = ap (λ (s : Scope). slice_get s c.args.place) c.self.view_is ∙ is in
    let same : variable_of c.index_mut.result.now ≡ v = cc in
    set_seen all c.args.place c.set_element.new.variable
    ∙ (ap (slice_set (scope_of all) c.args.place) (c.set_element.ensures ∙ ap (with_element c.args.at c.args.value) same)
    ∙ ap (λ (s : Scope). slice_set s c.args.place (with_element c.args.at c.args.value v)) c.self.view_is)
