-- Where declarations stand. The grammar lets them stand in blocks alone, and not as the statement of an `if` or of a loop, where the tree has
-- room for them. (ISO/IEC 9899:1999, 6.8.)
use Rattle.std.specs.Prelude.{Bool, true, false, not, ◌&&◌, List, [], ◌∷◌, Option, Some, None}
use Rattle.cl_ast.specs.declared.statement.Stmt.{Stmt}
use Rattle.cl_ast.specs.declared.statement.Stmt.TheOpen.{Stmt-F}
use Rattle.cl_ast.specs.declared.statement.Block.{Block}
use Rattle.cl_ast.specs.declared.statement.Item.{Item}
use Rattle.cl_ast.specs.declared.statement.Item.TheVariants as items
use Rattle.cl_ast.specs.Folds.{StmtSteps, fold_stmt, fold_block}

-- whether a statement is a declaration, and whether each declaration in it stands in a block
pub record Standing : Type 0 where
  pub declares : Bool
  pub is_settled : Bool

-- a statement that stands alone
abbrev pub alone : Standing → Bool
alone x = not x.declares && x.is_settled

abbrev pub alone_if_any : Option Standing → Bool
alone_if_any None = true
alone_if_any (Some x) = alone x

abbrev pub all_settled : List Standing → Bool
all_settled [] = true
all_settled (x ∷ xs) = x.is_settled && all_settled xs

abbrev pub no_declaration : Bool → Standing
no_declaration settled = record { declares = false; is_settled = settled }

abbrev pub stmt_stands : Stmt-F Standing Bool Bool Bool Bool Bool → Standing
stmt_stands (Stmt-F.Block x) = no_declaration x
stmt_stands (Stmt-F.Variables x) = record { declares = true; is_settled = true }
stmt_stands (Stmt-F.If x) = no_declaration x
stmt_stands (Stmt-F.While x) = no_declaration x
stmt_stands (Stmt-F.Do x) = no_declaration x
stmt_stands (Stmt-F.For x) = no_declaration x
stmt_stands _ = no_declaration true

-- of each part of a statement
abbrev pub stands_steps : StmtSteps Standing Bool Bool Bool Bool Bool
stands_steps = record { stmt = stmt_stands; block = λ x. all_settled x.statements; do_loop = λ x. alone x.body; for_loop = λ x. alone_if_any x.first && (alone_if_any x.step && alone x.body); choice = λ x. alone x.yes && alone_if_any x.no; while_loop = λ x. alone x.body }

-- whether a statement is a declaration, and whether each declaration in it stands in a block
unfoldable pub stands : Stmt → Standing
stands = fold_stmt stands_steps

-- whether each declaration in a block stands in a block
unfoldable pub is_settled : Block → Bool
is_settled = fold_block stands_steps

-- in each function of a text
abbrev pub are_settled : List Item → Bool
are_settled [] = true
are_settled (items.Function f ∷ xs) = is_settled f.body && are_settled xs
are_settled (items.Define d ∷ xs) = are_settled xs
are_settled (items.Variables v ∷ xs) = are_settled xs
