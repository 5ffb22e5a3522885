use Rattle.std.proofs.Common.{◌∙◌, ap}
use Rattle.cl_types.specs.Notes.{found_all}
use Rattle.cl_types.specs.Journals.{noted_all}
use Rattle.cl_types.specs.Expressions.{judged, constant_of}
use Rattle.cl_types.specs.Statements.{initial_faults}
use Rattle.cl_types.proofs.Walking.{two_noted}
use Rattle.cl_types.proofs.declare.initial.Goals as goal

pub returns : goal.returns
returns c =
    let x = c.args.value.now in
    let k = c.args.scopes.now in
    two_noted (judged x.expr k).notes (found_all (initial_faults c.args.reach c.args.type_name (judged x.expr k).type (constant_of x.expr k)) x.span.start) c.args.journal.now _ _ c.expr-found.ensures.notes
    (c.report_initial.ensures
    ∙ (ap (λ t. noted_all (found_all (initial_faults c.args.reach c.args.type_name t c.constant.result) x.span.start) c.expr-found.new.journal) c.expr-found.ensures.type_name
    ∙ ap (λ n. noted_all (found_all (initial_faults c.args.reach c.args.type_name (judged x.expr k).type n) x.span.start) c.expr-found.new.journal) c.constant.ensures))
