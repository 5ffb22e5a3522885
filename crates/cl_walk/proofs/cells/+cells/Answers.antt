use Rattle.std.proofs.Common.{◌∙◌, ap, sym, map, arith}
use Rattle.cl_ast.specs.declared.statement.If.{out-If}
use Rattle.cl_ast.specs.declared.statement.For.{out-For}
use Rattle.cl_meaning.specs.Outer.{size_in, declarator_cells, total}
use Rattle.cl_walk.specs.Numbers.{capped}
use Rattle.cl_walk.specs.Cells.{cells_of_stmt, cells_of_maybe}
use Rattle.cl_walk.proofs.GroundCells.{capped_sum, adds_begin, parts_on, parts_end}
use Rattle.cl_walk.proofs.GroundFrames.{cells_block, cells_variables, cells_while, cells_do, cells_if, cells_for, cells_in_block, cells_other}
use Rattle.cl_walk.proofs.cells.+cells.Goals as goal

pub stmt_cells-returns-in-Block : goal.stmt_cells-returns-in-Block
stmt_cells-returns-in-Block t c = rw (c.in-Block.is, cells_block) c.block_cells.ensures

pub stmt_cells-returns-in-Variables : goal.stmt_cells-returns-in-Variables
stmt_cells-returns-in-Variables t c = rw (c.in-Variables.is, cells_variables) (c.declarator_cells.ensures ∙ ap (λ ds. capped (declarator_cells (size_in c.args.scope.now) ds)) c.as_slice.ensures)

pub stmt_cells-returns-in-If : goal.stmt_cells-returns-in-If
stmt_cells-returns-in-If t c =
    let f = size_in c.args.scope.now in
    rw (c.in-If.is, cells_if)
    (capped_sum (cells_of_stmt f (out-If c.in-If.choice).yes) (cells_of_maybe f (out-If c.in-If.choice).no) _ _ _ (c.stmt_cells-yes.ensures ∙ ap (λ x. capped (cells_of_stmt f x)) c.get.ensures) c.maybe_cells.ensures c.saturating_add.ensures)

pub stmt_cells-returns-in-While : goal.stmt_cells-returns-in-While
stmt_cells-returns-in-While t c = rw (c.in-While.is, cells_while) (c.stmt_cells.ensures ∙ ap (λ x. capped (cells_of_stmt (size_in c.args.scope.now) x)) c.get-in-While.ensures)

pub stmt_cells-returns-in-Do : goal.stmt_cells-returns-in-Do
stmt_cells-returns-in-Do t c = rw (c.in-Do.is, cells_do) (c.stmt_cells-in-Do.ensures ∙ ap (λ x. capped (cells_of_stmt (size_in c.args.scope.now) x)) c.get-in-Do.ensures)

pub stmt_cells-returns-in-For : goal.stmt_cells-returns-in-For
stmt_cells-returns-in-For t c =
    let f = size_in c.args.scope.now in
    let x = out-For c.in-For.found in
    rw (c.in-For.is, cells_for)
    (capped_sum (cells_of_maybe f x.first) _ _ _ _ c.maybe_cells-first.ensures
    (capped_sum (cells_of_maybe f x.step) (cells_of_stmt f x.body) _ _ _ c.maybe_cells-step.ensures (c.stmt_cells-body.ensures ∙ ap (λ y. capped (cells_of_stmt f y)) c.get-in-For.ensures) c.saturating_add-in-For.ensures)
    c.saturating_add-in-For-2.ensures)

pub stmt_cells-returns-in_default : goal.stmt_cells-returns-in_default
stmt_cells-returns-in_default t c =
    sym (ap capped (cells_other (size_in c.args.scope.now) c.args.statement.now c.in_default.not-Block c.in_default.not-Variables c.in_default.not-If c.in_default.not-While c.in_default.not-Do c.in_default.not-For))

pub block_cells-loop-i-init : goal.block_cells-loop-i-init
block_cells-loop-i-init t c = adds_begin (total (map (cells_of_stmt (size_in c.args.scope.now)) c.as_slice-statements.result.now))

pub block_cells-loop-i-preserved : goal.block_cells-loop-i-preserved
block_cells-loop-i-preserved t c = parts_on (cells_of_stmt (size_in c.args.scope.now)) c.as_slice-statements.result.now c.loop-i.i c.index-statements-i.result c.loop-i.all c.stmt_cells.result _ c.loop-i.invariant (omega arith) c.index-statements-i.is c.stmt_cells.ensures c.saturating_add-all.ensures

pub block_cells-returns : goal.block_cells-returns
block_cells-returns t c =
    parts_end (cells_of_stmt (size_in c.args.scope.now)) c.as_slice-statements.result.now c.loop-i.i c.loop-i.all c.loop-i.invariant (omega arith)
    ∙ (ap (λ xs. capped (total (map (cells_of_stmt (size_in c.args.scope.now)) xs))) c.as_slice-statements.ensures ∙ sym (ap capped (cells_in_block (size_in c.args.scope.now) c.args.block.now)))
