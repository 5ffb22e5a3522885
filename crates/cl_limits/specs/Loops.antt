-- A loop is one turn of it, and the loop again. (ISO/IEC 9899:1999, 6.8.5; that a turn takes a tick: this project.)
use Rattle.std.specs.Prelude.{◌≡◌, ℕ, List, option_map}
use Rattle.cl_ast.specs.declared.statement.Item.{Item}
use Rattle.cl_ast.specs.declared.statement.Size.{Size}
use Rattle.cl_ast.specs.declared.statement.While.{While}
use Rattle.cl_ast.specs.declared.statement.Do.{Do}
use Rattle.cl_ast.specs.declared.statement.For.{For, out-For}
use Rattle.cl_ast.specs.declared.statement.Stmt.TheVariants as stmts
use Rattle.cl_model.specs.Doing.{◌>>◌}
use Rattle.cl_meaning.specs.Expressions.{Surroundings}
use Rattle.cl_meaning.specs.Parts.{while_turn, do_turn, for_turns, for_turn}
use Rattle.cl_meaning.specs.Statements.{or_nothing, does}
use Rattle.cl_meaning.specs.Calls.{surroundings, calls}
use Rattle.cl_meaning.specs.Process.{fixed}

-- A loop does what one turn does, with the loop behind it: of a `while` the condition, a tick and the body; of a `do` a tick, the body and the
-- condition; of a `for` the condition, a tick, the body and the step.
pub record LoopsGoRound (around : Surroundings) (length_of : Size → ℕ) : Type 0 where
  pub while_again : (x : While) → does around length_of (stmts.While x) ≡ while_turn around length_of x (does around length_of (stmts.While x))
  pub do_again : (x : Do) → does around length_of (stmts.Do x) ≡ do_turn around length_of x (does around length_of (stmts.Do x))
  -- behind its first statement
  pub for_begins : (x : For) → does around length_of (stmts.For x) ≡ or_nothing (option_map (does around length_of) (out-For x).first) >> for_turns around length_of x
  pub for_again : (x : For) → for_turns around length_of x ≡ for_turn around length_of x (for_turns around length_of x)

-- so it is in each text, at each depth, and however many more functions may be active
abbrev pub EachLoopGoesRound : Type 0
EachLoopGoesRound = (xs : List Item) (depth more : ℕ) → LoopsGoRound (surroundings (fixed xs depth) (calls (fixed xs depth) more)) (fixed xs depth).length_of
