-- The cells of the locals of statements, as equations at each form. (This project.)
use Rattle.std.proofs.Common.{◌≡◌, ◌∙◌, ◌+◌, ap, sym, refl, ℕ, map, length}
use denote.Hole.Carrier.{out, roll-out}
use Rattle.cl_ast.specs.declared.statement.Stmt.{Stmt}
use Rattle.cl_ast.specs.declared.statement.Stmt.TheVariants as stmts
use Rattle.cl_ast.specs.declared.statement.Block.{Block, out-Block}
use Rattle.cl_ast.specs.declared.statement.If.{If, out-If}
use Rattle.cl_ast.specs.declared.statement.While.{While, out-While}
use Rattle.cl_ast.specs.declared.statement.Do.{Do, out-Do}
use Rattle.cl_ast.specs.declared.statement.For.{For, out-For}
use Rattle.cl_ast.specs.declared.statement.Variables.{Variables}
use Rattle.cl_ast.specs.declared.statement.Function.{Function}
use Rattle.cl_ast.specs.declared.statement.Size.{Size}
use Rattle.cl_ast.specs.declared.statement.Stmt.TheBlock as s'
use Rattle.cl_ast.specs.declared.statement.Stmt.TheOpen.{Stmt-F}
use Rattle.cl_ast.specs.declared.statement.Stmt.TheViews.{roll-Stmt}
use Rattle.cl_meaning.specs.Outer.{frame_cells, cell_steps, declarator_cells, total}
use Rattle.cl_ast.proofs.Opens as opens
use Rattle.cl_walk.specs.Cells.{cells_of_stmt, cells_of_block, cells_of_maybe}

module _ (length_of : Size → ℕ) where
  pub cells_block : (x : Block) → cells_of_stmt length_of (stmts.Block x) ≡ cells_of_block length_of x
  unfolding cells_of_stmt cells_of_block
  cells_block x = opens.stmt_block (cell_steps length_of) x

  pub cells_variables : (x : Variables) → cells_of_stmt length_of (stmts.Variables x) ≡ declarator_cells length_of x.declarators
  unfolding cells_of_stmt cells_of_block
  cells_variables x = opens.stmt_variables (cell_steps length_of) x

  pub cells_while : (x : While) → cells_of_stmt length_of (stmts.While x) ≡ cells_of_stmt length_of (out-While x).body
  unfolding cells_of_stmt cells_of_block
  cells_while x = opens.stmt_while (cell_steps length_of) x

  pub cells_do : (x : Do) → cells_of_stmt length_of (stmts.Do x) ≡ cells_of_stmt length_of (out-Do x).body
  unfolding cells_of_stmt cells_of_block
  cells_do x = opens.stmt_do (cell_steps length_of) x

  pub cells_if : (x : If) → cells_of_stmt length_of (stmts.If x) ≡ cells_of_stmt length_of (out-If x).yes + cells_of_maybe length_of (out-If x).no
  unfolding cells_of_stmt cells_of_block
  cells_if x = opens.stmt_if (cell_steps length_of) x

  pub cells_for : (x : For) → cells_of_stmt length_of (stmts.For x) ≡ cells_of_maybe length_of (out-For x).first + (cells_of_maybe length_of (out-For x).step + cells_of_stmt length_of (out-For x).body)
  unfolding cells_of_stmt cells_of_block
  cells_for x = opens.stmt_for (cell_steps length_of) x

  pub cells_in_block : (x : Block) → cells_of_block length_of x ≡ total (map (cells_of_stmt length_of) (out-Block x).statements)
  unfolding cells_of_stmt cells_of_block
  cells_in_block x = opens.block_opens (cell_steps length_of) x

  -- a statement of any other form has none
  pub cells_other : (x : Stmt) → ((y : Block) → x ≡ stmts.Block y → ⊥) → ((y : Variables) → x ≡ stmts.Variables y → ⊥) → ((y : If) → x ≡ stmts.If y → ⊥) → ((y : While) → x ≡ stmts.While y → ⊥) → ((y : Do) → x ≡ stmts.Do y → ⊥) →
      ((y : For) → x ≡ stmts.For y → ⊥) → cells_of_stmt length_of x ≡ 0
  unfolding roll-Stmt cells_of_stmt
  cells_other x no_block no_variables no_if no_while no_do no_for = by (out s'.the_members s'.the_sigs s'.the_carrier s'.member-Stmt x) (roll-out s'.the_members s'.the_sigs s'.the_carrier s'.member-Stmt x)
    where
      by : (y : Stmt-F Stmt Block Do For If While) → roll-Stmt y ≡ x → cells_of_stmt length_of x ≡ 0
      by (Stmt-F.Block y) is = absurd (no_block y (sym is ∙ stmts.rolls-Block y))
      by (Stmt-F.Empty y) is = ap (cells_of_stmt length_of) (sym is ∙ stmts.rolls-Empty y) ∙ opens.stmt_empty (cell_steps length_of) y
      by (Stmt-F.Variables y) is = absurd (no_variables y (sym is ∙ stmts.rolls-Variables y))
      by (Stmt-F.Assign y) is = ap (cells_of_stmt length_of) (sym is ∙ stmts.rolls-Assign y) ∙ opens.stmt_assign (cell_steps length_of) y
      by (Stmt-F.Call y) is = ap (cells_of_stmt length_of) (sym is ∙ stmts.rolls-Call y) ∙ opens.stmt_call (cell_steps length_of) y
      by (Stmt-F.Operation y) is = ap (cells_of_stmt length_of) (sym is ∙ stmts.rolls-Operation y) ∙ opens.stmt_operation (cell_steps length_of) y
      by (Stmt-F.Print y) is = ap (cells_of_stmt length_of) (sym is ∙ stmts.rolls-Print y) ∙ opens.stmt_print (cell_steps length_of) y
      by (Stmt-F.If y) is = absurd (no_if y (sym is ∙ stmts.rolls-If y))
      by (Stmt-F.While y) is = absurd (no_while y (sym is ∙ stmts.rolls-While y))
      by (Stmt-F.Do y) is = absurd (no_do y (sym is ∙ stmts.rolls-Do y))
      by (Stmt-F.For y) is = absurd (no_for y (sym is ∙ stmts.rolls-For y))
      by (Stmt-F.Break y) is = ap (cells_of_stmt length_of) (sym is ∙ stmts.rolls-Break y) ∙ opens.stmt_break (cell_steps length_of) y
      by (Stmt-F.Continue y) is = ap (cells_of_stmt length_of) (sym is ∙ stmts.rolls-Continue y) ∙ opens.stmt_continue (cell_steps length_of) y
      by (Stmt-F.Return y) is = ap (cells_of_stmt length_of) (sym is ∙ stmts.rolls-Return y) ∙ opens.stmt_return (cell_steps length_of) y

-- a frame has its parameters and what its body has
pub cells_in_frame : (length_of : Size → ℕ) (f : Function) → frame_cells length_of f ≡ length f.parameters + cells_of_block length_of f.body
unfolding frame_cells cells_of_block
cells_in_frame length_of f = refl
