use Rattle.std.proofs.Common.{◌∙◌, sym, ap}
use Rattle.cl_meaning.specs.Variables.{set_in, with_element}
use Rattle.cl_state.proofs.Places.{stands, lacks}
use Rattle.cl_state.proofs.globals.Globals.assign.Goals as goal

pub set-requires : goal.set-requires
set-requires c =
    let st = stands c.args.name.now c.in-Some.place c.self.inside.scope (sym c.in-Some.ensures) in
    st.within

pub returns-in-Some : goal.returns-in-Some
returns-in-Some c =
    let st = stands c.args.name.now c.in-Some.place c.self.inside.scope (sym c.in-Some.ensures) in
    let change = with_element c.args.at c.args.value in
    c.set.ensures st.variable st.at ∙ (st.set change ∙ ap (set_in c.args.name.now change) c.self.view_is)

pub returns-in_default : goal.returns-in_default
returns-in_default c =
    let l = lacks c.args.name.now c.self.inside.scope (sym c.in_default.ensures) in
    let change = with_element c.args.at c.args.value in
    sym (ap (set_in c.args.name.now change) (sym c.self.view_is) ∙ (l.same change ∙ c.self.view_is))
