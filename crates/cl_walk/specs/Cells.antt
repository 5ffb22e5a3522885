-- The cells of the locals of statements. (This project.)
use Rattle.std.specs.Prelude.{ℕ, Option, option_map}
use Rattle.cl_ast.specs.declared.statement.Stmt.{Stmt}
use Rattle.cl_ast.specs.declared.statement.Block.{Block}
use Rattle.cl_ast.specs.declared.statement.Size.{Size}
use Rattle.cl_ast.specs.Folds.{fold_stmt, fold_block}
use Rattle.cl_meaning.specs.Outer.{cell_steps, or_no_cells}

module _ (length_of : Size → ℕ) where
  unfoldable pub cells_of_stmt : Stmt → ℕ
  cells_of_stmt = fold_stmt (cell_steps length_of)

  unfoldable pub cells_of_block : Block → ℕ
  cells_of_block = fold_block (cell_steps length_of)

  abbrev pub cells_of_maybe : Option Stmt → ℕ
  cells_of_maybe found = or_no_cells (option_map cells_of_stmt found)
