use Rattle.std.proofs.Common.{◌∙◌, ap}
use Rattle.cl_types.specs.Notes.{found_all}
use Rattle.cl_types.specs.Journals.{noted_all}
use Rattle.cl_types.specs.Expressions.{judged}
use Rattle.cl_types.specs.Statements.{argument_faults}
use Rattle.cl_types.proofs.Walking.{two_noted}
use Rattle.cl_types.proofs.statement.argument.Goals as goal

pub returns-in-Some : goal.returns-in-Some
returns-in-Some c =
    let x = c.args.part.now in
    rw c.in-Some.is (two_noted (judged x.expr c.args.scopes.now).notes (found_all (argument_faults c.in-Some.directive (judged x.expr c.args.scopes.now).type) x.span.start) c.args.journal.now _ _ c.expr-found.ensures.notes
    (c.report_argument.ensures ∙ ap (λ t. noted_all (found_all (argument_faults c.in-Some.directive t) x.span.start) c.expr-found.new.journal) c.expr-found.ensures.type_name))
