-- What statements come to, by their rules. (This project.)
use Rattle.std.proofs.Common.{◌≡◌, ◌∙◌, ap, sym, refl, subst, ℕ, zero, suc, ◌+◌, ◌-◌, ◌<◌, ◌≤◌, arith, true, false, List, map, Option, Some, None}
use Rattle.std.specs.Prelude.{Result, Ok, Err, IsErrAnd, option_map, if◌then◌else◌, pos}
use Rattle.std.proofs.lemmas.Result.{err_from_is_err_and}
use Rattle.cl_value.specs.declared.process.Trap.TheVariants.{StepLimit}
use Rattle.cl_value.specs.declared.value.Value.{Value}
use Rattle.cl_value.specs.declared.value.Value.TheVariants.{Int}
use Rattle.cl_ast.specs.declared.span.Span.{Span}
use Rattle.cl_ast.specs.declared.statement.Stmt.{Stmt}
use Rattle.cl_ast.specs.declared.statement.Stmt.TheVariants as stmts
use Rattle.cl_ast.specs.declared.statement.Block.{Block, out-Block}
use Rattle.cl_ast.specs.declared.statement.Variables.{Variables}
use Rattle.cl_ast.specs.declared.statement.Declarator.{Declarator}
use Rattle.cl_ast.specs.declared.tree.Expr.{Expr}
use Rattle.cl_ast.specs.declared.statement.Size.{Size}
use Rattle.cl_model.specs.Doing.{then_do, pure, trap, tick, variables, set_variables, ◌>>=◌, ◌>>◌}
use Rattle.cl_model.specs.Numbers.{is_zero}
use Rattle.cl_meaning.specs.Operations.{Does}
use Rattle.cl_meaning.specs.Expressions.{Surroundings, value}
use Rattle.cl_meaning.specs.Statements as meaning
use Rattle.cl_meaning.specs.Variables.{entered, left}
use Rattle.cl_meaning.specs.Statements.{WentOn, Broke, Continued, Returned, in_order, declarator_does, declaration_does, does, scoped, or_nothing, or_true, returned, going_on, turn, turns, loop, do_turn, do_turns, do_loop, behind_body}
use Rattle.cl_meaning.proofs.Sentences.{block_is, of_block, of_empty, of_variables, of_break, of_continue}
use Rattle.cl_walk.specs.declared.stop.Stop.{Stop}
use Rattle.cl_walk.specs.declared.stop.Stop.TheVariants.{Trapped}
use Rattle.cl_walk.specs.declared.call.Exit.{Exit}
use Rattle.cl_walk.specs.declared.call.Exit.TheVariants as exits
use Rattle.cl_walk.specs.Views.{exit_of}
use Rattle.cl_walk.specs.Rules.{Turns, left_or}
use Rattle.cl_walk.specs.Walks.{Walks, here, Point, log_at, Comes, same}
use Rattle.cl_walk.proofs.Walking.{walks_on, walks_under, comes_past, on, up, on_then, up_then, on_pure}
use Rattle.cl_walk.proofs.Turning.{loop_begins, loop_more, loop_last, do_begins, do_more, do_last, turn_next, turn_leaves, turn_stops, last_leaves, last_stops, last_traps}

-- ---- a part, by another name
pub as_meant : (f : Stmt → Does meaning.Exit) (s t : Stmt) (from : Point) (result : Result Exit Stop) (to : Point) → t ≡ s → Comes exit_of (f t) from result to → Comes exit_of (f s) from result to
as_meant f s t from result to is v = subst (λ (x : Stmt). Comes exit_of (f x) from result to) is v

-- ---- statements and conditions that may be left out

module _ (f : Stmt → Does meaning.Exit) (found : Option Stmt) (from : Point) where
  pub maybe_goes : (s t : Stmt) (result : Result Exit Stop) (to : Point) → found ≡ Some s → t ≡ s → Comes exit_of (f t) from result to → Comes exit_of (or_nothing (option_map f found)) from result to
  unfolding or_nothing
  maybe_goes s t result to is got v = rw is (rw got at v)

  pub maybe_not : found ≡ None → Comes exit_of (or_nothing (option_map f found)) from (Ok exits.WentOn) from
  unfolding or_nothing pure
  maybe_not is = rw is here

module _ (around : Surroundings) (length_of : Size → ℕ) (found : Option Expr) (from : Point) where
  pub test_goes : (e : Expr) (result : Result Value Stop) (to : Point) → found ≡ Some e → Comes same (value around e) from result to → Comes same (or_true around length_of found) from result to
  unfolding or_true
  test_goes e result to is v = rw is v

  pub test_holds : found ≡ None → Comes same (or_true around length_of found) from (Ok (Int (pos 1))) from
  unfolding or_true pure
  test_holds is = rw is here

  pub return_stops : (e : Expr) (to : Point) (stop : Stop) → found ≡ Some e → Comes {B = Value} same (value around e) from (Err stop) to → Comes {B = Exit} exit_of (returned around length_of found) from (Err stop) to
  unfolding returned
  return_stops e to stop is v = subst (λ (x : Option Expr). Comes {B = Exit} exit_of (returned around length_of x) from (Err stop) to) (sym is) (up same exit_of (value around e) (λ v. pure (Returned (Some v))) from to stop v)

  pub return_gives : (e : Expr) (to : Point) (v : Value) → found ≡ Some e → Comes same (value around e) from (Ok v) to → Comes exit_of (returned around length_of found) from (Ok (exits.Returned (Some v))) to
  unfolding returned
  return_gives e to v is w = rw is (on_pure same exit_of (value around e) (λ v. Returned (Some v)) from to v (exits.Returned (Some v)) refl w)

  pub return_bare : found ≡ None → Comes exit_of (returned around length_of found) from (Ok (exits.Returned None)) from
  unfolding returned pure
  return_bare is = rw is here

-- ---- turns of loops

-- a turn that leaves by `?`
pub turns_leave : (p again : Does meaning.Exit) (from to : Point) (result : Result (Option Exit) Stop) (stop : Stop) → IsErrAnd result (λ e. e ≡ stop) → Comes exit_of p from (Err stop) to → Turns p again from result to
turns_leave p again from to result stop h w = let e = err_from_is_err_and result h in rw (e.1, e.2) w

-- one whose last steps are walked to what is behind the body
module _ (p again : Does meaning.Exit) (from : Point) (exit : Exit) (next : Does meaning.Exit) (left : Option Exit) (behind : behind_body (exit_of exit) next ≡ left_or next left) (to : Point) (w : Walks (p from.shown.state) (log_at from) (behind_body (exit_of exit) next to.shown.state) (log_at to)) where
  as_left : Walks (p from.shown.state) (log_at from) (left_or next left to.shown.state) (log_at to)
  as_left = subst (λ (q : Does meaning.Exit). Walks (p from.shown.state) (log_at from) (q to.shown.state) (log_at to)) behind w

  pub left_behind : (e : Exit) → left ≡ Some e → Comes exit_of p from (Ok e) to
  unfolding pure
  left_behind e is = subst (λ (l : Option Exit). Walks (p from.shown.state) (log_at from) (left_or next l to.shown.state) (log_at to)) is as_left

  pub goes_behind : left ≡ None → Walks (p from.shown.state) (log_at from) (next to.shown.state) (log_at to)
  goes_behind is = subst (λ (l : Option Exit). Walks (p from.shown.state) (log_at from) (left_or next l to.shown.state) (log_at to)) is as_left

module _ (test : Does Value) (body step again : Does meaning.Exit) (from : Point) where
  ticking : Does meaning.Exit
  ticking = tick >> (body >>= (λ exit. behind_body exit (step >> again)))

  by_test : Value → Does meaning.Exit
  by_test v = if is_zero v then pure WentOn else (tick >> (body >>= (λ exit. behind_body exit (step >> again))))

  pub test_stops : (to : Point) (stop : Stop) → Comes {B = Value} same test from (Err stop) to → Comes exit_of (turn test body step again) from (Err stop) to
  unfolding turn by_test
  test_stops to stop v = up same exit_of test by_test from to stop v

  module _ (v : Value) (tested : Point) (is : Comes same test from (Ok v) tested) where
    pub test_ends : is_zero v ≡ true → Comes exit_of (turn test body step again) from (Ok exits.WentOn) tested
    unfolding turn by_test pure
    test_ends none = on same exit_of test by_test from tested v (Ok exits.WentOn) tested is (rw none here)

    module _ (some : is_zero v ≡ false) where
      past_test : Walks (turn test body step again from.shown.state) (log_at from) (ticking tested.shown.state) (log_at tested)
      unfolding turn by_test ticking ◌>>=◌ then_do
      past_test = walks_on (walks_under by_test is) (rw some here)

      pub tick_stops : (to : Point) (stop : Stop) → Comes {B = Unit {0}} same tick tested (Err stop) to → Comes exit_of (turn test body step again) from (Err stop) to
      unfolding ticking
      tick_stops to stop t = comes_past exit_of (turn test body step again) ticking from tested (Err stop) to past_test (up_then same exit_of tick (body >>= (λ exit. behind_body exit (step >> again))) tested to stop t)

      module _ (ticked : Point) (t : Comes {B = Unit {0}} same tick tested (Ok tt) ticked) where
        pub body_stops : (to : Point) (stop : Stop) → Comes {B = Exit} exit_of body ticked (Err stop) to → Comes exit_of (turn test body step again) from (Err stop) to
        unfolding ticking
        body_stops to stop b = comes_past exit_of (turn test body step again) ticking from tested (Err stop) to past_test (on_then same exit_of tick (body >>= (λ exit. behind_body exit (step >> again))) tested ticked tt (Err stop) to t (up exit_of exit_of body (λ exit. behind_body exit (step >> again)) ticked to stop b))

        module _ (exit : Exit) (to : Point) (b : Comes exit_of body ticked (Ok exit) to) where
          past_body : Walks (turn test body step again from.shown.state) (log_at from) (behind_body (exit_of exit) (step >> again) to.shown.state) (log_at to)
          unfolding ticking ◌>>=◌ ◌>>◌ then_do
          past_body = walks_on past_test (walks_on (walks_under (λ _. body >>= (λ exit. behind_body exit (step >> again))) t) (walks_under (λ exit. behind_body exit (step >> again)) b))

          module _ (left : Option Exit) (behind : (next : Does meaning.Exit) → behind_body (exit_of exit) next ≡ left_or next left) where
            pub body_leaves : (e : Exit) → left ≡ Some e → Comes exit_of (turn test body step again) from (Ok e) to
            body_leaves e is = left_behind (turn test body step again) again from exit (step >> again) left (behind (step >> again)) to past_body e is

            module _ (none : left ≡ None) where
              past_turn : Walks (turn test body step again from.shown.state) (log_at from) ((step >> again) to.shown.state) (log_at to)
              past_turn = goes_behind (turn test body step again) again from exit (step >> again) left (behind (step >> again)) to past_body none

              pub step_stops : (next : Point) (stop : Stop) → Comes {B = Exit} exit_of step to (Err stop) next → Comes exit_of (turn test body step again) from (Err stop) next
              step_stops next stop w = comes_past exit_of (turn test body step again) (step >> again) from to (Err stop) next past_turn (up_then exit_of exit_of step again to next stop w)

              pub step_goes : (next : Point) (x : Exit) → Comes exit_of step to (Ok x) next → Turns (turn test body step again) again from (Ok None) next
              unfolding ◌>>◌ then_do
              step_goes next x w = walks_on past_turn (walks_under (λ _. again) w)

            -- without a step
            pub body_turns : step ≡ pure WentOn → Turns (turn test body step again) again from (Ok left) to
            unfolding ◌>>◌ then_do pure
            body_turns bare = by left refl
              where
                by : (l : Option Exit) → left ≡ l → Turns (turn test body step again) again from (Ok l) to
                by None is = subst (λ (q : Does meaning.Exit). Walks (turn test body step again from.shown.state) (log_at from) ((q >> again) to.shown.state) (log_at to)) bare (past_turn is)
                by (Some e) is = body_leaves e is

-- ---- loops

-- how many turns are to come
pub all_to_come : (most n : ℕ) → most ≡ n → most - 0 ≡ n
all_to_come most n is = omega arith

pub one_more : (i most : ℕ) → i < most → most - i ≡ suc (most - (i + 1))
one_more i most few = omega arith

pub none_to_come : (i most : ℕ) → most ≤ i → most - i ≡ 0
none_to_come i most past = omega arith

module _ (test : Does Value) (body step : Does meaning.Exit) (from : Point) where
  -- so many turns are to come, at most
  abbrev pub InLoop : ℕ → Point → Type 0
  InLoop n now = Walks (loop test body step from.shown.state) (log_at from) (turns n test body step now.shown.state) (log_at now)

  pub loop_head : (n : ℕ) → n ≡ from.shown.state.ticks → InLoop n from
  loop_head n is = rw is (loop_begins test body step from)

  module _ (n : ℕ) (now : Point) (head : InLoop n now) where
    module _ (m : ℕ) (is : n ≡ suc m) where
      more_head : InLoop (suc m) now
      more_head = subst (λ k. InLoop k now) is head

      pub loop_next : (next : Point) (left : Option Exit) → left ≡ None → Turns (turn test body step (turns m test body step)) (turns m test body step) now (Ok left) next → InLoop m next
      loop_next next left is_none v = turn_next (turn test body step) (λ k. turns k test body step) (loop test body step) (loop_begins test body step) (loop_more test body step) (loop_last test body step) from m now next more_head (subst (λ (l : Option Exit). Turns (turn test body step (turns m test body step)) (turns m test body step) now (Ok l) next) is_none v)

      pub loop_leaves : (to : Point) (exit : Exit) (left : Option Exit) → left ≡ Some exit → Turns (turn test body step (turns m test body step)) (turns m test body step) now (Ok left) to → Comes exit_of (loop test body step) from (Ok exit) to
      loop_leaves to exit left is_some v = turn_leaves (turn test body step) (λ k. turns k test body step) (loop test body step) (loop_begins test body step) (loop_more test body step) (loop_last test body step) from m now to exit more_head (subst (λ (l : Option Exit). Turns (turn test body step (turns m test body step)) (turns m test body step) now (Ok l) to) is_some v)

      pub loop_stops : (to : Point) (stop : Stop) → Turns (turn test body step (turns m test body step)) (turns m test body step) now (Err stop) to → Comes exit_of (loop test body step) from (Err stop) to
      loop_stops to stop v = turn_stops (turn test body step) (λ k. turns k test body step) (loop test body step) (loop_begins test body step) (loop_more test body step) (loop_last test body step) from m now to stop more_head v

    module _ (is : n ≡ 0) where
      last_head : InLoop zero now
      last_head = subst (λ k. InLoop k now) is head

      pub loop_last_leaves : (to : Point) (exit : Exit) (left : Option Exit) → left ≡ Some exit → Turns (turn test body step (trap StepLimit)) (trap StepLimit) now (Ok left) to → Comes exit_of (loop test body step) from (Ok exit) to
      loop_last_leaves to exit left is_some v = last_leaves (turn test body step) (λ k. turns k test body step) (loop test body step) (loop_begins test body step) (loop_more test body step) (loop_last test body step) from now to exit last_head (subst (λ (l : Option Exit). Turns (turn test body step (trap StepLimit)) (trap StepLimit) now (Ok l) to) is_some v)

      pub loop_last_stops : (to : Point) (stop : Stop) → Turns (turn test body step (trap StepLimit)) (trap StepLimit) now (Err stop) to → Comes exit_of (loop test body step) from (Err stop) to
      loop_last_stops to stop v = last_stops (turn test body step) (λ k. turns k test body step) (loop test body step) (loop_begins test body step) (loop_more test body step) (loop_last test body step) from now to stop last_head v

      pub loop_traps : (to : Point) (left : Option Exit) → left ≡ None → Turns (turn test body step (trap StepLimit)) (trap StepLimit) now (Ok left) to → Comes {B = Exit} exit_of (loop test body step) from (Err (Trapped StepLimit)) to
      loop_traps to left is_none v = last_traps (turn test body step) (λ k. turns k test body step) (loop test body step) (loop_begins test body step) (loop_more test body step) (loop_last test body step) from now to last_head (subst (λ (l : Option Exit). Turns (turn test body step (trap StepLimit)) (trap StepLimit) now (Ok l) to) is_none v)

-- ---- choices

module _ (test : Does Value) (no yes : Does meaning.Exit) (from : Point) where
  chosen : Value → Does meaning.Exit
  chosen v = if is_zero v then no else yes

  pub choice_stops : (to : Point) (stop : Stop) → Comes {B = Value} same test from (Err stop) to → Comes {B = Exit} exit_of (test >>= (λ v. if is_zero v then no else yes)) from (Err stop) to
  unfolding chosen
  choice_stops to stop v = up same exit_of test chosen from to stop v

  module _ (v : Value) (tested : Point) (is : Comes same test from (Ok v) tested) (result : Result Exit Stop) (to : Point) where
    pub choice_no : is_zero v ≡ true → Comes exit_of no tested result to → Comes exit_of (test >>= (λ v. if is_zero v then no else yes)) from result to
    unfolding chosen
    choice_no none w = on same exit_of test chosen from tested v result to is (rw none w)

    pub choice_yes : is_zero v ≡ false → Comes exit_of yes tested result to → Comes exit_of (test >>= (λ v. if is_zero v then no else yes)) from result to
    unfolding chosen
    choice_yes some w = on same exit_of test chosen from tested v result to is (rw some w)

-- ---- turns of `do`

module _ (test : Does Value) (body again : Does meaning.Exit) (from : Point) where
  do_test : Does meaning.Exit
  do_test = test >>= (λ v. if is_zero v then pure WentOn else again)

  do_body : Does meaning.Exit
  do_body = body >>= (λ exit. behind_body exit (test >>= (λ v. if is_zero v then pure WentOn else again)))

  pub do_tick_stops : (to : Point) (stop : Stop) → Comes {B = Unit {0}} same tick from (Err stop) to → Comes exit_of (do_turn test body again) from (Err stop) to
  unfolding do_turn do_body
  do_tick_stops to stop t = up_then same exit_of tick do_body from to stop t

  module _ (ticked : Point) (t : Comes {B = Unit {0}} same tick from (Ok tt) ticked) where
    pub do_body_stops : (to : Point) (stop : Stop) → Comes {B = Exit} exit_of body ticked (Err stop) to → Comes exit_of (do_turn test body again) from (Err stop) to
    unfolding do_turn do_body do_test
    do_body_stops to stop b = on_then same exit_of tick do_body from ticked tt (Err stop) to t (up exit_of exit_of body (λ exit. behind_body exit do_test) ticked to stop b)

    module _ (exit : Exit) (walked : Point) (b : Comes exit_of body ticked (Ok exit) walked) where
      past_do_body : Walks (do_turn test body again from.shown.state) (log_at from) (behind_body (exit_of exit) do_test walked.shown.state) (log_at walked)
      unfolding do_turn do_body do_test ◌>>=◌ ◌>>◌ then_do
      past_do_body = walks_on (walks_under (λ _. do_body) t) (walks_under (λ exit. behind_body exit do_test) b)

      module _ (left : Option Exit) (behind : (next : Does meaning.Exit) → behind_body (exit_of exit) next ≡ left_or next left) where
        pub do_body_leaves : (e : Exit) → left ≡ Some e → Comes exit_of (do_turn test body again) from (Ok e) walked
        do_body_leaves e is = left_behind (do_turn test body again) again from exit do_test left (behind do_test) walked past_do_body e is

        module _ (is : left ≡ None) where
          past_do : Walks (do_turn test body again from.shown.state) (log_at from) (do_test walked.shown.state) (log_at walked)
          past_do = goes_behind (do_turn test body again) again from exit do_test left (behind do_test) walked past_do_body is

          pub do_test_stops : (to : Point) (stop : Stop) → Comes {B = Value} same test walked (Err stop) to → Comes exit_of (do_turn test body again) from (Err stop) to
          unfolding do_test
          do_test_stops to stop v = comes_past exit_of (do_turn test body again) do_test from walked (Err stop) to past_do (choice_stops test (pure WentOn) again walked to stop v)

          module _ (v : Value) (tested : Point) (w : Comes same test walked (Ok v) tested) where
            pub do_ends : is_zero v ≡ true → Comes exit_of (do_turn test body again) from (Ok exits.WentOn) tested
            unfolding do_test pure
            do_ends none = comes_past exit_of (do_turn test body again) do_test from walked (Ok exits.WentOn) tested past_do (choice_no test (pure WentOn) again walked v tested w (Ok exits.WentOn) tested none here)

            pub do_turns_on : is_zero v ≡ false → Turns (do_turn test body again) again from (Ok None) tested
            unfolding do_test ◌>>=◌ then_do
            do_turns_on some = walks_on past_do (walks_on (walks_under (λ v. if is_zero v then pure WentOn else again) w) (rw some here))

-- ---- loops by `do`

module _ (test : Does Value) (body : Does meaning.Exit) (from : Point) where
  -- so many turns are to come, at most
  abbrev pub InDo : ℕ → Point → Type 0
  InDo n now = Walks (do_loop test body from.shown.state) (log_at from) (do_turns n test body now.shown.state) (log_at now)

  pub do_head : (n : ℕ) → n ≡ from.shown.state.ticks → InDo n from
  do_head n is = rw is (do_begins test body from)

  module _ (n : ℕ) (now : Point) (head : InDo n now) where
    module _ (m : ℕ) (is : n ≡ suc m) where
      more_do : InDo (suc m) now
      more_do = subst (λ k. InDo k now) is head

      pub do_next : (next : Point) (left : Option Exit) → left ≡ None → Turns (do_turn test body (do_turns m test body)) (do_turns m test body) now (Ok left) next → InDo m next
      do_next next left is_none v = turn_next (do_turn test body) (λ k. do_turns k test body) (do_loop test body) (do_begins test body) (do_more test body) (do_last test body) from m now next more_do (subst (λ (l : Option Exit). Turns (do_turn test body (do_turns m test body)) (do_turns m test body) now (Ok l) next) is_none v)

      pub do_leaves : (to : Point) (exit : Exit) (left : Option Exit) → left ≡ Some exit → Turns (do_turn test body (do_turns m test body)) (do_turns m test body) now (Ok left) to → Comes exit_of (do_loop test body) from (Ok exit) to
      do_leaves to exit left is_some v = turn_leaves (do_turn test body) (λ k. do_turns k test body) (do_loop test body) (do_begins test body) (do_more test body) (do_last test body) from m now to exit more_do (subst (λ (l : Option Exit). Turns (do_turn test body (do_turns m test body)) (do_turns m test body) now (Ok l) to) is_some v)

      pub do_stops : (to : Point) (stop : Stop) → Turns (do_turn test body (do_turns m test body)) (do_turns m test body) now (Err stop) to → Comes exit_of (do_loop test body) from (Err stop) to
      do_stops to stop v = turn_stops (do_turn test body) (λ k. do_turns k test body) (do_loop test body) (do_begins test body) (do_more test body) (do_last test body) from m now to stop more_do v

    module _ (is : n ≡ 0) where
      last_do : InDo zero now
      last_do = subst (λ k. InDo k now) is head

      pub do_last_leaves : (to : Point) (exit : Exit) (left : Option Exit) → left ≡ Some exit → Turns (do_turn test body (trap StepLimit)) (trap StepLimit) now (Ok left) to → Comes exit_of (do_loop test body) from (Ok exit) to
      do_last_leaves to exit left is_some v = last_leaves (do_turn test body) (λ k. do_turns k test body) (do_loop test body) (do_begins test body) (do_more test body) (do_last test body) from now to exit last_do (subst (λ (l : Option Exit). Turns (do_turn test body (trap StepLimit)) (trap StepLimit) now (Ok l) to) is_some v)

      pub do_last_stops : (to : Point) (stop : Stop) → Turns (do_turn test body (trap StepLimit)) (trap StepLimit) now (Err stop) to → Comes exit_of (do_loop test body) from (Err stop) to
      do_last_stops to stop v = last_stops (do_turn test body) (λ k. do_turns k test body) (do_loop test body) (do_begins test body) (do_more test body) (do_last test body) from now to stop last_do v

      pub do_traps : (to : Point) (left : Option Exit) → left ≡ None → Turns (do_turn test body (trap StepLimit)) (trap StepLimit) now (Ok left) to → Comes {B = Exit} exit_of (do_loop test body) from (Err (Trapped StepLimit)) to
      do_traps to left is_none v = last_traps (do_turn test body) (λ k. do_turns k test body) (do_loop test body) (do_begins test body) (do_more test body) (do_last test body) from now to last_do (subst (λ (l : Option Exit). Turns (do_turn test body (trap StepLimit)) (trap StepLimit) now (Ok l) to) is_none v)

-- ---- how statements leave off

pub exit_is : (b c : Exit) → b ≡ c → exit_of b ≡ exit_of c
exit_is b c is = ap exit_of is

IsOther : meaning.Exit → Type 0
IsOther WentOn = ⊥
IsOther Broke = Unit {0}
IsOther Continued = Unit {0}
IsOther (Returned v) = Unit {0}

pub not_on : (b : Exit) → (b ≡ exits.WentOn → ⊥) → exit_of b ≡ WentOn → ⊥
unfolding IsOther
not_on exits.WentOn other is = other refl
not_on exits.Broke other is = subst IsOther is tt
not_on exits.Continued other is = subst IsOther is tt
not_on (exits.Returned v) other is = subst IsOther is tt

-- ---- scopes

module _ (part : Does meaning.Exit) (from entered_at : Point) where
  leaving : meaning.Exit → Does meaning.Exit
  leaving exit = variables >>= (λ inner. set_variables (left inner) >> pure exit)

  module _ (state : entered_at.shown.state ≡ record from.shown.state { variables = entered from.shown.state.variables }) (output : entered_at.shown.output ≡ from.shown.output) (said : entered_at.said ≡ from.said) where
    past_entry : Walks (scoped part from.shown.state) (log_at from) ((part >>= leaving) entered_at.shown.state) (log_at entered_at)
    unfolding scoped leaving variables set_variables pure ◌>>=◌ ◌>>◌ then_do
    past_entry = rw (state, output, said) here

    pub scope_stops : (to : Point) (stop : Stop) → Comes {B = Exit} exit_of part entered_at (Err stop) to → Comes {B = Exit} exit_of (scoped part) from (Err stop) to
    scope_stops to stop v = comes_past exit_of (scoped part) (part >>= leaving) from entered_at (Err stop) to past_entry (up exit_of exit_of part leaving entered_at to stop v)

    pub scope_leaves : (exit : Exit) (to end : Point) → Comes exit_of part entered_at (Ok exit) to → end.shown.state ≡ record to.shown.state { variables = left to.shown.state.variables } → end.shown.output ≡ to.shown.output → end.said ≡ to.said → Comes exit_of (scoped part) from (Ok exit) end
    unfolding leaving variables set_variables pure ◌>>=◌ ◌>>◌ then_do
    scope_leaves exit to end v state_is output_is said_is = rw (state_is, output_is, said_is) (walks_on past_entry (walks_under leaving v))

-- ---- parts of which only what they do is taken

module _ (p : Does Value) (from to : Point) where
  pub goes_stops : (stop : Stop) → Comes {B = Value} same p from (Err stop) to → Comes {B = Exit} exit_of (going_on p) from (Err stop) to
  unfolding going_on
  goes_stops stop v = up_then same exit_of p (pure WentOn) from to stop v

  pub goes_on : (v : Value) → Comes same p from (Ok v) to → Comes exit_of (going_on p) from (Ok exits.WentOn) to
  unfolding going_on pure
  goes_on v w = on_then same exit_of p (pure WentOn) from to v (Ok exits.WentOn) to w here

-- ---- statements by their forms

module _ (around : Surroundings) (length_of : Size → ℕ) (s : Stmt) (from : Point) where
  pub by_rule : (t : Stmt) (p : Does meaning.Exit) (result : Result Exit Stop) (to : Point) → s ≡ t → does around length_of t ≡ p → Comes exit_of p from result to → Comes exit_of (does around length_of s) from result to
  by_rule t p result to is rule v = subst (λ (q : Does meaning.Exit). Comes exit_of q from result to) (sym (ap (does around length_of) is ∙ rule)) v

  pub does_empty : (x : Span) → s ≡ stmts.Empty x → Comes exit_of (does around length_of s) from (Ok exits.WentOn) from
  unfolding pure
  does_empty x is = by_rule (stmts.Empty x) (pure WentOn) (Ok exits.WentOn) from is (of_empty around length_of x) here

  pub does_break : (x : Span) → s ≡ stmts.Break x → Comes exit_of (does around length_of s) from (Ok exits.Broke) from
  unfolding pure
  does_break x is = by_rule (stmts.Break x) (pure Broke) (Ok exits.Broke) from is (of_break around length_of x) here

  pub does_continue : (x : Span) → s ≡ stmts.Continue x → Comes exit_of (does around length_of s) from (Ok exits.Continued) from
  unfolding pure
  does_continue x is = by_rule (stmts.Continue x) (pure Continued) (Ok exits.Continued) from is (of_continue around length_of x) here

  pub does_variables : (x : Variables) (all : List Declarator) (result : Result Exit Stop) (to : Point) → s ≡ stmts.Variables x → all ≡ x.declarators → Comes exit_of (in_order (map (declarator_does around length_of x.type_name) all)) from result to → Comes exit_of (does around length_of s) from result to
  unfolding declaration_does
  does_variables x all result to is are v = by_rule (stmts.Variables x) (declaration_does around length_of x) result to is (of_variables around length_of x)
      (subst (λ (ds : List Declarator). Comes exit_of (in_order (map (declarator_does around length_of x.type_name) ds)) from result to) are v)

-- what a block does, in a scope of its own
pub block_rule : (around : Surroundings) (length_of : Size → ℕ) (b : Block) (all : List Stmt) → all ≡ (out-Block b).statements → does around length_of (stmts.Block b) ≡ scoped (in_order (map (does around length_of) all))
block_rule around length_of b all are = of_block around length_of b ∙ ap scoped (block_is around length_of b) ∙ ap (λ (ss : List Stmt). scoped (in_order (map (does around length_of) ss))) (sym are)
