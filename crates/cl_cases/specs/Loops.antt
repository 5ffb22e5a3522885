-- Loops: each turn takes a tick, so none is left behind the last that the meaning has. (This project.)
use Rattle.std.specs.Prelude.{◌≡◌, ℕ, zero, suc, List, option_map}
use Rattle.cl_value.specs.declared.value.Value.{Value}
use Rattle.cl_ast.specs.declared.tree.Expr.{Expr}
use Rattle.cl_ast.specs.declared.statement.Stmt.{Stmt}
use Rattle.cl_ast.specs.declared.statement.While.{While, out-While}
use Rattle.cl_ast.specs.declared.statement.Do.{Do, out-Do}
use Rattle.cl_ast.specs.declared.statement.For.{For, out-For}
use Rattle.cl_ast.specs.declared.statement.Item.{Item}
use Rattle.cl_model.specs.Doing.{◌>>=◌, pure, ticks_left}
use Rattle.cl_meaning.specs.Operations.{Does}
use Rattle.cl_meaning.specs.Expressions.{value}
use Rattle.cl_meaning.specs.Statements.{Exit, WentOn, turn, do_turn, or_nothing, or_true, does}
use Rattle.cl_meaning.specs.Parts.{while_exit, do_exit, for_turns}
use Rattle.cl_meaning.specs.Outer.{outer, size_in}
use Rattle.cl_typing.specs.Laws.{around}

-- The turns of the meaning, with this done behind the last of them, where the meaning has a trap.
unfoldable pub turns_then : Does Exit → ℕ → Does Value → Does Exit → Does Exit → Does Exit
turns_then last zero test body step = turn test body step last
turns_then last (suc n) test body step = λ s. turn test body step (turns_then last n test body step) s

unfoldable pub loop_then : Does Exit → Does Value → Does Exit → Does Exit → Does Exit
loop_then last test body step = do
  n ← ticks_left
  turns_then last n test body step

unfoldable pub do_turns_then : Does Exit → ℕ → Does Value → Does Exit → Does Exit
do_turns_then last zero test body = do_turn test body last
do_turns_then last (suc n) test body = λ s. do_turn test body (do_turns_then last n test body) s

unfoldable pub do_loop_then : Does Exit → Does Value → Does Exit → Does Exit
do_loop_then last test body = do
  n ← ticks_left
  do_turns_then last n test body

module _ (xs : List Item) (depth more : ℕ) where
  -- what expressions and statements of the text do
  abbrev pub tested : Expr → Does Value
  tested x = value (around xs depth more) x

  -- what a statement of the text does
  abbrev pub done : Stmt → Does Exit
  done x = does (around xs depth more) (size_in (outer xs)) x

  -- each loop of the text does the same, whatever is done behind its last turn
  pub record LoopsEnd (last : Does Exit) : Type 0 where
    pub while_ends : (x : While) → loop_then last (tested (out-While x).test) (done (out-While x).body) (pure WentOn) ≡ while_exit (around xs depth more) (size_in (outer xs)) x
    pub do_ends : (x : Do) → do_loop_then last (tested (out-Do x).test) (done (out-Do x).body) ≡ do_exit (around xs depth more) (size_in (outer xs)) x
    pub for_ends : (x : For) →
        loop_then last (or_true (around xs depth more) (size_in (outer xs)) (out-For x).test) (done (out-For x).body) (or_nothing (option_map done (out-For x).step)) ≡ for_turns (around xs depth more) (size_in (outer xs)) x

-- in each text, no loop depends on what is done behind the last turn that the meaning has
abbrev pub EachLoopEnds : Type 0
EachLoopEnds = (xs : List Item) (depth more : ℕ) (last : Does Exit) → LoopsEnd xs depth more last
