use Rattle.std.proofs.Common.{subst, List}
use Rattle.cl_ast.specs.declared.statement.Parameter.{Parameter}
use Rattle.cl_types.specs.Items.{parameters_walked, function_context}
use Rattle.cl_types.specs.Statements.{block_walked}
use Rattle.cl_types.specs.Walks.{Does}
use Rattle.cl_types.proofs.Walking.{on_ok, keeps_on}
use Rattle.cl_types.proofs.Parts.{behind_does}
use Rattle.cl_types.proofs.item.body.Goals as goal

pub returns-clause-does : goal.returns-clause-does
returns-clause-does c =
    let P : List Parameter → Type 0 = λ ps. Does (parameters_walked ps c.args.scopes.now) c.parameters.new.scopes c.args.journal.now c.parameters.new.journal in
    on_ok c.block.result c.block.ensures.does (λ d.
    behind_does (parameters_walked c.args.part.now.parameters c.args.scopes.now) (block_walked c.args.part.now.body (function_context c.args.part.now)) c.parameters.new.scopes c.block.new.scopes c.args.journal.now c.parameters.new.journal c.block.new.journal
    (subst P c.as_slice.ensures c.in_ok-parameters.ensures.does) d)

pub returns-clause-keeps : goal.returns-clause-keeps
returns-clause-keeps c = on_ok c.block.result c.block.ensures.keeps (λ k. keeps_on c.args.scopes.now c.parameters.new.scopes c.block.new.scopes c.in_ok-parameters.ensures.keeps k)
