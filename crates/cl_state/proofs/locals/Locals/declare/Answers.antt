use Rattle.std.proofs.Common.{◌≡◌, ◌∙◌, ◌-◌, length, ap, arith, suc}
use Rattle.cl_meaning.specs.Variables.{declared_in}
use Rattle.cl_state.specs.Views.{variable_of}
use Rattle.cl_state.proofs.Places.{declares, got}
use Rattle.cl_state.proofs.locals.Locals.declare.Goals as goal

pub returns-in_ok-add : goal.returns-in_ok-add
returns-in_ok-add c =
    let all = c.self.inside.scopes.items in
    let last = c.len-count.result - 1 in
    let long : length all ≡ suc last = omega (arith, c.len-count.ensures, c.self.inside.scopes.ok.0, c.if-count-gt0.true) in
    let at = got all last c.index_mut.result.now (omega (arith, long)) c.index_mut.ensures.value in
    record { declared = declares (variable_of c.args.variable) all last c.index_mut.result.now c.add.new.self long at c.in_ok-add.ensures.added ∙ ap (declared_in (variable_of c.args.variable)) c.self.view_is }
