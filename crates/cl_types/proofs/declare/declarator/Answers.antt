use Rattle.cl_types.specs.Declarations.{declared_again}
use Rattle.cl_types.specs.Statements.{form_notes, form_declared}
use Rattle.cl_types.proofs.Walking.{two_noted, does_declare, keeps_declared}
use Rattle.cl_types.proofs.declare.declarator.Goals as goal

pub returns-clause-does : goal.returns-clause-does
returns-clause-does c =
    does_declare c.declare.result c.args.part.now.name.bytes c.as_slice.result.now (form_declared c.args.type_name c.args.part.now.form) c.declared.result c.args.scopes.now c.declare.new.self _ c.args.journal.now c.form.new.journal
    c.declare.ensures.declared c.as_slice.ensures c.declared.ensures
    (two_noted (declared_again c.args.part.now.name c.args.scopes.now) (form_notes c.args.reach c.args.type_name c.args.scopes.now c.args.part.now.form) c.args.journal.now _ _ c.report_again.ensures c.form.ensures)

pub returns-clause-keeps : goal.returns-clause-keeps
returns-clause-keeps c = keeps_declared c.declare.result c.as_slice.result.now c.declared.result c.args.scopes.now c.declare.new.self c.declare.ensures.declared
