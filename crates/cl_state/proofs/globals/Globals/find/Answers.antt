use Rattle.std.proofs.Common.{◌≡◌, ◌∙◌, sym, ap}
use Rattle.cl_meaning.specs.Variables.{in_scope}
use Rattle.cl_state.specs.Views.{variable_of}
use Rattle.cl_state.proofs.Places.{stands, lacks}
use Rattle.cl_state.proofs.globals.Globals.find.Goals as goal

pub variable_at-requires : goal.variable_at-requires
variable_at-requires c =
    let st = stands c.args.name.now c.in-Some.place c.self.inside.scope (sym c.in-Some.ensures) in
    st.within

pub returns-in-Some : goal.returns-in-Some
returns-in-Some c outer =
    let st = stands c.args.name.now c.in-Some.place c.self.inside.scope (sym c.in-Some.ensures) in
    let at = st.at in
    let there = c.variable_at.ensures in
    let is : st.variable ≡ variable_of c.variable_at.result.now = cc in
    ap (λ s. in_scope c.args.name.now s outer) (sym c.self.view_is) ∙ (st.found outer ∙ is)

pub returns-in-None : goal.returns-in-None
returns-in-None c outer =
    let l = lacks c.args.name.now c.self.inside.scope (sym c.in-None.ensures) in
    ap (λ s. in_scope c.args.name.now s outer) (sym c.self.view_is) ∙ l.outside outer
