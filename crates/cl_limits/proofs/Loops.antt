-- Ticks never rise. So a loop has as many turns to come as it asks for, and is one turn and the loop again.
use Rattle.std.proofs.Common.{◌≡◌, ◌∙◌, sym, ap, refl, ℕ, zero, suc, ◌≤◌, Bool, true, false, List, Option, Some, None, arith}
use Rattle.std.proofs.Math.Path.{fun_ext}
use Rattle.std.specs.Prelude.{option_map, if◌then◌else◌}
use Rattle.cl_value.specs.declared.value.Value.{Value}
use Rattle.cl_value.specs.declared.process.Trap.TheVariants.{StepLimit}
use Rattle.cl_value.specs.Plain.{PlainReply}
use Rattle.cl_ast.specs.declared.tree.Expr.{Expr}
use Rattle.cl_ast.specs.declared.statement.Stmt.{Stmt}
use Rattle.cl_ast.specs.declared.statement.Stmt.TheVariants as stmts
use Rattle.cl_ast.specs.declared.statement.While.{While, out-While}
use Rattle.cl_ast.specs.declared.statement.Do.{Do, out-Do}
use Rattle.cl_ast.specs.declared.statement.For.{out-For}
use Rattle.cl_ast.specs.declared.statement.Item.{Item}
use Rattle.cl_model.specs.Doing.{Steps, Gives, Prints, Asks, Stops, State, then_do, ◌>>=◌, ◌>>◌, pure, trap, counted, tick, ticks_left}
use Rattle.cl_model.specs.Numbers.{is_zero}
use Rattle.cl_meaning.specs.Variables.{Variables}
use Rattle.cl_meaning.specs.Operations.{Does}
use Rattle.cl_meaning.specs.Expressions.{Surroundings, value}
use Rattle.cl_meaning.specs.Statements.{Exit, WentOn, Broke, Continued, Returned, behind_body, turn, turns, loop, do_turn, do_turns, do_loop, or_nothing, or_true, does}
use Rattle.cl_meaning.specs.Parts.{while_turn}
use Rattle.cl_meaning.specs.Parts as parts
use Rattle.cl_meaning.proofs.Sentences as meant
use Rattle.cl_meaning.specs.Outer.{outer, size_in}
use Rattle.cl_meaning.specs.Calls.{surroundings, calls}
use Rattle.cl_meaning.specs.Process.{fixed}
use Rattle.cl_limits.specs.Loops.{EachLoopGoesRound}
use Rattle.cl_limits.proofs.Ahead.{AsFar, Goes, goes_pure}
use Rattle.cl_limits.proofs.Expressions.{CallsGo, goes_value}
use Rattle.cl_limits.proofs.Statements.{goes_or_true, goes_stmt}
use Rattle.cl_limits.proofs.Calls.{calls_go, goes_calls}

-- ---- ticks never rise

-- at most so many are left in the end
abbrev pub AtMost : {A : Type 0} → ℕ → Steps (A × State Variables) → Type 0
AtMost n (Gives r) = r.1.ticks ≤ n
AtMost n (Prints bytes rest) = AtMost n rest
AtMost n (Asks q rest) = (reply : PlainReply) → AtMost n (rest reply)
AtMost n (Stops t) = Unit {0}

abbrev pub NeverRises : {A : Type 0} → Does A → Type 0
NeverRises d = (n : ℕ) (s : State Variables) → s.ticks ≤ n → AtMost n (d s)

at_most : {A : Type 0} (n : ℕ) (p q : Steps (A × State Variables)) → AsFar 0 n p q → AtMost n p
at_most n (Gives r) q h = h.1
at_most n (Prints bytes p) q h = at_most n p h.0 h.2
at_most n (Asks request p) q h = λ reply. at_most n (p reply) (h.0 reply) (h.2 reply)
at_most n (Stops t) q h = tt

pub never_rises : {A : Type 0} (d : Does A) → Goes 0 d → NeverRises d
never_rises d h n s le = at_most n (d s) _ (h n s le)

-- ---- the same, where at most so many ticks are left

abbrev pub SameUpTo : {A : Type 0} → ℕ → Does A → Does A → Type 0
SameUpTo n p q = (s : State Variables) → s.ticks ≤ n → p s ≡ q s

same_steps : {A B : Type 0} (n : ℕ) (p : Steps (A × State Variables)) (f g : A → Does B) → AtMost n p → ((a : A) → SameUpTo n (f a) (g a)) → then_do p f ≡ then_do p g
unfolding then_do
same_steps n (Gives r) f g h k = k r.0 r.1 h
same_steps n (Prints bytes p) f g h k = ap (λ d. Prints bytes d) (same_steps n p f g h k)
same_steps n (Asks q rest) f g h k = ap (λ go. Asks q go) (fun_ext (λ reply. same_steps n (rest reply) f g (h reply) k))
same_steps n (Stops t) f g h k = refl

same_then : {A B : Type 0} (n : ℕ) (d : Does A) (f g : A → Does B) → NeverRises d → ((a : A) → SameUpTo n (f a) (g a)) → SameUpTo n (d >>= f) (d >>= g)
unfolding ◌>>=◌
same_then n d f g h k s le = same_steps n (d s) f g (h n s le) k

same_also : {A B : Type 0} (n : ℕ) (d : Does A) (e f : Does B) → NeverRises d → SameUpTo n e f → SameUpTo n (d >> e) (d >> f)
unfolding ◌>>◌
same_also n d e f h k s le = same_steps n (d s) (λ _. e) (λ _. f) (h n s le) (λ _. k)

same_if : {A : Type 0} (n : ℕ) (b : Bool) (d e f : Does A) → SameUpTo n e f → SameUpTo n (if b then d else e) (if b then d else f)
same_if n true d e f h = λ s le. refl
same_if n false d e f h = h

counts : {B : Type 0} (p q : Does B) (s : State Variables) (left : ℕ) → ((less : ℕ) → left ≡ suc less → p (record s { ticks = less }) ≡ q (record s { ticks = less })) → then_do (counted s left) (λ _. p) ≡ then_do (counted s left) (λ _. q)
unfolding then_do
counts p q s zero k = refl
counts p q s (suc less) k = k less refl

pub out_of_ticks : {B : Type 0} (p q : Does B) → SameUpTo 0 (tick >> p) (tick >> q)
unfolding tick ◌>>◌
out_of_ticks p q s le = counts p q s s.ticks (λ less is. absurd (omega (arith, is, le)))

same_tick : {B : Type 0} (n : ℕ) (p q : Does B) → SameUpTo n p q → SameUpTo (suc n) (tick >> p) (tick >> q)
unfolding tick ◌>>◌
same_tick n p q h s le = counts p q s s.ticks (λ less is. h (record s { ticks = less }) (omega (arith, is, le)))

-- ---- turns

same_behind : (n : ℕ) (exit : Exit) (p q : Does Exit) → SameUpTo n p q → SameUpTo n (behind_body exit p) (behind_body exit q)
unfolding behind_body
same_behind n WentOn p q h = h
same_behind n Broke p q h = λ s le. refl
same_behind n Continued p q h = h
same_behind n (Returned v) p q h = λ s le. refl

module _ (test : Does Value) (body : Does Exit) (tests : NeverRises test) (bodies : NeverRises body) where
  -- where no tick is left it is all one what is done behind the turn
  pub same_last : (step again other : Does Exit) → SameUpTo 0 (turn test body step again) (turn test body step other)
  unfolding turn
  same_last step again other = same_then 0 test _ _ tests (λ v. same_if 0 (is_zero v) (pure WentOn) _ _ (out_of_ticks _ _))

  pub same_turn : (n : ℕ) (step again other : Does Exit) → NeverRises step → SameUpTo n again other → SameUpTo (suc n) (turn test body step again) (turn test body step other)
  unfolding turn
  same_turn n step again other h k = same_then (suc n) test _ _ tests (λ v. same_if (suc n) (is_zero v) (pure WentOn) _ _
      (same_tick n _ _ (same_then n body _ _ bodies (λ exit. same_behind n exit _ _ (same_also n step again other h k)))))

  -- more turns than ticks are no more
  enough : (m n : ℕ) (step : Does Exit) → NeverRises step → m ≤ n → SameUpTo m (turns n test body step) (turns m test body step)
  unfolding turns
  enough zero zero step h le = λ s few. refl
  enough zero (suc n) step h le = same_last step (turns n test body step) (trap StepLimit)
  enough (suc m) zero step h le = absurd (omega (arith, le))
  enough (suc m) (suc n) step h le = same_turn m step _ _ h (enough m n step h (omega (arith, le)))

  again_of : (n : ℕ) (step : Does Exit) → NeverRises step → SameUpTo n (turns n test body step) (loop test body step)
  unfolding loop ticks_left ◌>>=◌ then_do
  again_of n step h s le = enough s.ticks n step h le s (omega arith)

  by_ticks : (n : ℕ) (step : Does Exit) → NeverRises step → SameUpTo n (turns n test body step) (turn test body step (loop test body step))
  unfolding turns
  by_ticks zero step h = same_last step (trap StepLimit) (loop test body step)
  by_ticks (suc n) step h = same_turn n step _ _ h (again_of n step h)

  pub loop_again : (step : Does Exit) → NeverRises step → loop test body step ≡ turn test body step (loop test body step)
  unfolding loop ticks_left ◌>>=◌ then_do
  loop_again step h = fun_ext (λ s. by_ticks s.ticks step h s (omega arith))

  pub same_do_turn : (n : ℕ) (again other : Does Exit) → SameUpTo n again other → SameUpTo (suc n) (do_turn test body again) (do_turn test body other)
  unfolding do_turn
  same_do_turn n again other k = same_tick n _ _ (same_then n body _ _ bodies (λ exit. same_behind n exit _ _
      (same_then n test _ _ tests (λ v. same_if n (is_zero v) (pure WentOn) again other k))))

  do_enough : (m n : ℕ) → m ≤ n → SameUpTo m (do_turns n test body) (do_turns m test body)
  unfolding do_turns do_turn
  do_enough zero zero le = λ s few. refl
  do_enough zero (suc n) le = out_of_ticks _ _
  do_enough (suc m) zero le = absurd (omega (arith, le))
  do_enough (suc m) (suc n) le = same_do_turn m _ _ (do_enough m n (omega (arith, le)))

  do_again_of : (n : ℕ) → SameUpTo n (do_turns n test body) (do_loop test body)
  unfolding do_loop ticks_left ◌>>=◌ then_do
  do_again_of n s le = do_enough s.ticks n le s (omega arith)

  do_by_ticks : (n : ℕ) → SameUpTo n (do_turns n test body) (do_turn test body (do_loop test body))
  unfolding do_turns do_turn
  do_by_ticks zero = out_of_ticks _ _
  do_by_ticks (suc n) = same_do_turn n _ _ (do_again_of n)

  pub do_loop_again : do_loop test body ≡ do_turn test body (do_loop test body)
  unfolding do_loop ticks_left ◌>>=◌ then_do
  do_loop_again = fun_ext (λ s. do_by_ticks s.ticks s (omega arith))

-- ---- the loops of a text

module _ (xs : List Item) (depth more : ℕ) where
  abbrev pub around_in : Surroundings
  around_in = surroundings (fixed xs depth) (calls (fixed xs depth) more)

  going : CallsGo 0 around_in
  going = calls_go 0 (fixed xs depth) (calls (fixed xs depth) more) (λ name vs. goes_calls 0 (fixed xs depth) more name vs)

  pub tests_never_rise : (x : Expr) → NeverRises (value around_in x)
  tests_never_rise x = never_rises (value around_in x) (goes_value 0 around_in going x)

  pub or_true_never_rises : (x : Option Expr) → NeverRises (or_true around_in (size_in (outer xs)) x)
  or_true_never_rises x = never_rises (or_true around_in (size_in (outer xs)) x) (goes_or_true 0 around_in going (size_in (outer xs)) x)

  pub stmts_never_rise : (x : Stmt) → NeverRises (does around_in (size_in (outer xs)) x)
  stmts_never_rise x = never_rises (does around_in (size_in (outer xs)) x) (goes_stmt 0 around_in going (size_in (outer xs)) x)

  pub nothing_never_rises : NeverRises (pure WentOn)
  nothing_never_rises = never_rises (pure WentOn) (goes_pure 0 WentOn)

  pub maybe_never_rises : (x : Option Stmt) → NeverRises (or_nothing (option_map (does around_in (size_in (outer xs))) x))
  unfolding or_nothing
  maybe_never_rises None = nothing_never_rises
  maybe_never_rises (Some x) = stmts_never_rise x

  abbrev done : Stmt → Does Exit
  done = does around_in (size_in (outer xs))

  while_again : (x : While) → done (stmts.While x) ≡ while_turn around_in (size_in (outer xs)) x (done (stmts.While x))
  while_again x =
      meant.of_while around_in (size_in (outer xs)) x
      ∙ (loop_again _ _ (tests_never_rise (out-While x).test) (stmts_never_rise (out-While x).body) (pure WentOn) nothing_never_rises
      ∙ ap (while_turn around_in (size_in (outer xs)) x) (sym (meant.of_while around_in (size_in (outer xs)) x)))

  do_again : (x : Do) → done (stmts.Do x) ≡ parts.do_turn around_in (size_in (outer xs)) x (done (stmts.Do x))
  do_again x =
      meant.of_do around_in (size_in (outer xs)) x
      ∙ (do_loop_again _ _ (tests_never_rise (out-Do x).test) (stmts_never_rise (out-Do x).body)
      ∙ ap (parts.do_turn around_in (size_in (outer xs)) x) (sym (meant.of_do around_in (size_in (outer xs)) x)))

pub each_loop_goes_round : EachLoopGoesRound
each_loop_goes_round xs depth more = record {
  while_again = while_again xs depth more;
  do_again = do_again xs depth more;
  for_begins = meant.of_for (around_in xs depth more) (size_in (outer xs));
  for_again = λ x. loop_again _ _ (or_true_never_rises xs depth more (out-For x).test) (stmts_never_rise xs depth more (out-For x).body) _ (maybe_never_rises xs depth more (out-For x).step);
}
