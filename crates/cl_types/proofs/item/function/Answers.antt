use Rattle.std.proofs.Common.{◌∙◌, ap}
use Rattle.cl_types.specs.Declarations.{Known}
use Rattle.cl_types.specs.Items.{body_walked, function_type}
use Rattle.cl_types.specs.declared.declared.Declared.TheVariants as declareds
use Rattle.cl_types.proofs.Walking.{scope_does, leave_back, leave_fits, keeps_declare}
use Rattle.cl_types.proofs.Parts.{function_does}
use Rattle.cl_types.proofs.item.function.Goals as goal

pub leave-requires : goal.leave-requires
leave-requires c = leave_fits c.declare_function.new.scopes c.body.new.scopes c.enter-outer.result c.enter-outer.ensures.outer (c.in_ok-body.ensures.keeps.around ∙ ap (λ (k : Known). k.around) c.enter-outer.ensures.known)

pub returns-clause-does : goal.returns-clause-does
returns-clause-does c =
    function_does c.args.part.now c.args.scopes.now c.declare_function.new.scopes c.leave.new.self c.args.journal.now c.function.new.self c.report_again.new.journal c.body.new.journal
    c.in_ok-declare_function.ensures c.function.ensures c.report_again.ensures
    (scope_does (body_walked c.args.part.now) c.declare_function.new.scopes c.enter-outer.new.self c.body.new.scopes c.leave.new.self c.enter-outer.result c.report_again.new.journal c.body.new.journal
    c.enter-outer.ensures.known c.enter-outer.ensures.outer c.in_ok-body.ensures.does c.in_ok-body.ensures.keeps c.leave.ensures)

pub returns-clause-keeps : goal.returns-clause-keeps
returns-clause-keeps c =
    keeps_declare c.args.part.now.name.bytes (declareds.Function (function_type c.args.part.now)) c.args.scopes.now c.leave.new.self
    (c.leave.ensures
    ∙ (leave_back c.declare_function.new.scopes c.body.new.scopes c.enter-outer.result c.enter-outer.ensures.outer (c.in_ok-body.ensures.keeps.around ∙ ap (λ (k : Known). k.around) c.enter-outer.ensures.known)
    (c.in_ok-body.ensures.keeps.functions ∙ ap (λ (k : Known). k.functions) c.enter-outer.ensures.known)
    ∙ c.in_ok-declare_function.ensures))
