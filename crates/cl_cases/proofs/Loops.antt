-- A loop is over before its ticks are.
use Rattle.std.proofs.Common.{◌≡◌, ℕ, zero, suc, arith}
use Rattle.std.proofs.Math.Path.{fun_ext}
use Rattle.cl_value.specs.declared.value.Value.{Value}
use Rattle.cl_value.specs.declared.process.Trap.TheVariants.{StepLimit}
use Rattle.cl_ast.specs.declared.statement.While.{out-While}
use Rattle.cl_ast.specs.declared.statement.Do.{out-Do}
use Rattle.cl_ast.specs.declared.statement.For.{out-For}
use Rattle.cl_model.specs.Doing.{then_do, ◌>>=◌, pure, trap, ticks_left}
use Rattle.cl_meaning.specs.Operations.{Does}
use Rattle.cl_meaning.specs.Statements.{Exit, WentOn, turns, loop, do_turn, do_turns, do_loop}
use Rattle.cl_limits.proofs.Loops.{NeverRises, SameUpTo, out_of_ticks, same_last, same_turn, same_do_turn, tests_never_rise, or_true_never_rises, stmts_never_rise, nothing_never_rises, maybe_never_rises}
use Rattle.cl_cases.specs.Loops.{turns_then, loop_then, do_turns_then, do_loop_then, EachLoopEnds}

module _ (last : Does Exit) (test : Does Value) (body : Does Exit) (tests : NeverRises test) (bodies : NeverRises body) where
  turns_same : (n : ℕ) (step : Does Exit) → NeverRises step → SameUpTo n (turns_then last n test body step) (turns n test body step)
  unfolding turns turns_then
  turns_same zero step h = same_last _ _ tests bodies step last (trap StepLimit)
  turns_same (suc n) step h = same_turn _ _ tests bodies n step _ _ h (turns_same n step h)

  loop_is : (step : Does Exit) → NeverRises step → loop_then last test body step ≡ loop test body step
  unfolding loop loop_then ticks_left ◌>>=◌ then_do
  loop_is step h = fun_ext (λ s. turns_same s.ticks step h s (omega arith))

  do_same : (n : ℕ) → SameUpTo n (do_turns_then last n test body) (do_turns n test body)
  unfolding do_turns do_turns_then do_turn
  do_same zero = out_of_ticks _ _
  do_same (suc n) = same_do_turn _ _ tests bodies n _ _ (do_same n)

  do_loop_is : do_loop_then last test body ≡ do_loop test body
  unfolding do_loop do_loop_then ticks_left ◌>>=◌ then_do
  do_loop_is = fun_ext (λ s. do_same s.ticks s (omega arith))

pub each_loop_ends : EachLoopEnds
each_loop_ends xs depth more last = record {
  while_ends = λ x. loop_is last _ _ (tests_never_rise xs depth more (out-While x).test) (stmts_never_rise xs depth more (out-While x).body) (pure WentOn) (nothing_never_rises xs depth more);
  do_ends = λ x. do_loop_is last _ _ (tests_never_rise xs depth more (out-Do x).test) (stmts_never_rise xs depth more (out-Do x).body);
  for_ends = λ x. loop_is last _ _ (or_true_never_rises xs depth more (out-For x).test) (stmts_never_rise xs depth more (out-For x).body) _ (maybe_never_rises xs depth more (out-For x).step);
}
