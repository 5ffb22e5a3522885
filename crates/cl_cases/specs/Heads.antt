-- Heads of `for`: a simple statement stands there, which goes on, so nothing is lost where the meaning goes on behind it. A tree has room for
-- others. (ISO/IEC 9899:1999, 6.8.5.3; that a head has simple statements alone: this project.)
use Rattle.std.specs.Prelude.{◌≡◌, ℕ, Bool, true, false, ◌&&◌, List, [], ◌∷◌, Option, Some, None, option_map}
use Rattle.cl_rules.specs.Syntax.{Derivation}
use Rattle.cl_rules.specs.Values.{value}
use Rattle.cl_ast.specs.Grammar.{rules, unit}
use Rattle.cl_ast.specs.Trees.{meaning}
use Rattle.cl_ast.specs.declared.statement.Stmt.{Stmt}
use Rattle.cl_ast.specs.declared.statement.Stmt.TheVariants as stmts
use Rattle.cl_ast.specs.declared.statement.Stmt.TheOpen.{Stmt-F}
use Rattle.cl_ast.specs.declared.statement.Block.{Block}
use Rattle.cl_ast.specs.declared.statement.For.{For, out-For}
use Rattle.cl_ast.specs.declared.statement.Size.{Size}
use Rattle.cl_ast.specs.declared.statement.Item.{Item}
use Rattle.cl_ast.specs.declared.statement.Item.TheVariants as items
use Rattle.cl_meaning.specs.Expressions.{Surroundings}
use Rattle.cl_meaning.specs.Statements.{WentOn, or_nothing, does}
use Rattle.cl_ast.specs.Folds.{StmtSteps, fold_stmt, fold_block}
use Rattle.cl_cases.specs.Giving.{AlwaysGives}

-- whether a statement is an assignment, a call, an operation or a print, and whether each head of a `for` in it has such alone
pub record Heading : Type 0 where
  pub is_simple : Bool
  pub has_heads : Bool

-- a statement of a head
abbrev pub is_head : Heading → Bool
is_head x = x.is_simple && x.has_heads

abbrev pub is_head_if_any : Option Heading → Bool
is_head_if_any None = true
is_head_if_any (Some x) = is_head x

abbrev pub headed_if_any : Option Heading → Bool
headed_if_any None = true
headed_if_any (Some x) = x.has_heads

abbrev pub all_headed : List Heading → Bool
all_headed [] = true
all_headed (x ∷ xs) = x.has_heads && all_headed xs

abbrev pub simple_one : Heading
simple_one = record { is_simple = true; has_heads = true }

abbrev pub other_one : Bool → Heading
other_one headed = record { is_simple = false; has_heads = headed }

abbrev pub stmt_headed : Stmt-F Heading Bool Bool Bool Bool Bool → Heading
stmt_headed (Stmt-F.Block x) = other_one x
stmt_headed (Stmt-F.Assign x) = simple_one
stmt_headed (Stmt-F.Call x) = simple_one
stmt_headed (Stmt-F.Operation x) = simple_one
stmt_headed (Stmt-F.Print x) = simple_one
stmt_headed (Stmt-F.If x) = other_one x
stmt_headed (Stmt-F.While x) = other_one x
stmt_headed (Stmt-F.Do x) = other_one x
stmt_headed (Stmt-F.For x) = other_one x
stmt_headed _ = other_one true

-- of each part of a statement
abbrev pub headed_steps : StmtSteps Heading Bool Bool Bool Bool Bool
headed_steps = record { stmt = stmt_headed; block = λ x. all_headed x.statements; do_loop = λ x. x.body.has_heads; for_loop = λ x. is_head_if_any x.first && (is_head_if_any x.step && x.body.has_heads); choice = λ x. x.yes.has_heads && headed_if_any x.no; while_loop = λ x. x.body.has_heads }

unfoldable pub headed : Stmt → Heading
headed = fold_stmt headed_steps

-- whether each head of a `for` in a block has simple statements alone
unfoldable pub is_headed : Block → Bool
is_headed = fold_block headed_steps

-- in each function of a text
abbrev pub are_headed : List Item → Bool
are_headed [] = true
are_headed (items.Function f ∷ xs) = is_headed f.body && are_headed xs
are_headed (items.Define d ∷ xs) = are_headed xs
are_headed (items.Variables v ∷ xs) = are_headed xs

-- so it is with whatever tokens derive
abbrev pub SourcesAreHeaded : Type 0
SourcesAreHeaded = (d : Derivation rules unit) → are_headed (value meaning d) ≡ true

-- and then what stands first in a `for`, and its step, go on
abbrev pub HeadsGoOn : Type 0
HeadsGoOn =
    (around : Surroundings) (length_of : Size → ℕ) (x : For) → (headed (stmts.For x)).has_heads ≡ true →
    AlwaysGives (λ e. e ≡ WentOn) (or_nothing (option_map (does around length_of) (out-For x).first)) × AlwaysGives (λ e. e ≡ WentOn) (or_nothing (option_map (does around length_of) (out-For x).step))
