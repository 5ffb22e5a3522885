use Rattle.std.proofs.Common.{◌≡◌, ◌∙◌, [], None, ap, sym}
use Rattle.cl_meaning.specs.Variables.{without_innermost}
use Rattle.cl_state.proofs.Places.{popped, where_none, no_items}
use Rattle.cl_state.proofs.locals.Locals.leave.Goals as goal

pub returns : goal.returns
returns c =
    let gone : c.pop.result ≡ None → c.pop.new.self.items ≡ [] = λ is. no_items c.pop.new.self.items (sym c.pop.new.self.ok.0 ∙ (where_none c.pop.result _ _ c.pop.ensures.cases is).1) in
    popped c.self.inside.scopes.items c.pop.new.self.items c.pop.result c.pop.ensures.items gone ∙ ap without_innermost c.self.view_is
