-- The code of loops.
use Rattle.std.proofs.Common.{◌≡◌, ℕ, zero, suc, ◌≤◌, List, [], refl, ap, subst, ◌∙◌, arith}
use Rattle.std.specs.Prelude.{ℤ, option_map, if◌then◌else◌}
use Rattle.cl_value.specs.declared.process.Trap.TheVariants.{StepLimit}
use Rattle.cl_value.specs.declared.value.Value.{Value}
use Rattle.cl_ast.specs.declared.statement.Stmt.TheVariants as stmts
use Rattle.cl_ast.specs.declared.statement.While.{While, out-While}
use Rattle.cl_ast.specs.declared.statement.Do.{Do, out-Do}
use Rattle.cl_ast.specs.declared.statement.For.{For, out-For}
use Rattle.cl_ast.specs.declared.statement.Size.{Size}
use Rattle.cl_model.specs.Doing.{Steps, Gives, Stops, State, then_do, ◌>>=◌, ◌>>◌, pure, trap, tick, counted, ticks_left}
use Rattle.cl_model.specs.Doing as doing
use Rattle.cl_model.specs.Numbers.{is_zero}
use Rattle.cl_meaning.specs.Variables.{Variables}
use Rattle.cl_meaning.specs.Operations.{Does}
use Rattle.cl_meaning.specs.Expressions.{Surroundings, value}
use Rattle.cl_meaning.specs.Statements.{Exit, WentOn, behind_body, turn, turns, loop, do_turn, do_turns, do_loop, or_nothing, or_true, does}
use Rattle.cl_meaning.proofs.Sentences.{of_while, of_do, of_for}
use Rattle.cl_code.specs.Plain.{PlainProgram}
use Rattle.cl_code.specs.Machine.{Cells, Frame, Ending, machine}
use Rattle.cl_code.specs.declared.instr.Instr.TheVariants as code
use Rattle.cl_translation.proofs.Alike.{Same}
use Rattle.cl_translation.specs.Layout.{Entry, Layout, at}
use Rattle.cl_translation.specs.Stands.{Stands}
use Rattle.cl_translation.proofs.Means.{Goes, End, Decided, Leads, Runs}
use Rattle.cl_translation.specs.Statements.{Returning, NoReturn}
use Rattle.cl_translation.proofs.Notation.{in_turn, in_turn_then, both, left_is, right_is, same_trap}
use Rattle.cl_translation.proofs.Scopes.{weaker, exactly}
use Rattle.cl_translation.proofs.Steps.{jumps, ticks}
use Rattle.cl_translation.specs.Lying.{Has}

module _ (p : PlainProgram) (depth : ℕ) (A : Type 0) (F : End A) (goes : Goes p depth) (frames : List Frame) where
  -- a tick on both sides
  pub tick_same : (m : ℕ) (layout : Layout) (held : List ℤ) (s : State Variables) (t : State Cells) → Stands m layout held s t → (X : doing.Does Variables A) (Y : doing.Does Cells Ending) →
      ((n : ℕ) → suc n ≤ m → Stands n layout held (record s { ticks = n }) (record t { ticks = n }) → Same F (X (record s { ticks = n })) (Y (record t { ticks = n }))) →
      Same F (then_do (counted s s.ticks) (λ _. X)) (then_do (counted t t.ticks) (λ _. Y))
  unfolding then_do
  tick_same m layout held s t r X Y go = subst (λ n. Same F (then_do (counted s s.ticks) (λ _. X)) (then_do (counted t n) (λ _. Y))) r.ticks (by s.ticks refl)
    where
      by : (n : ℕ) → n ≡ s.ticks → Same F (then_do (counted s n) (λ _. X)) (then_do (counted t n) (λ _. Y))
      by zero is = same_trap F StepLimit
      by (suc n) is = go n (omega (arith, is, r.low)) (record {
        ticks = refl;
        low = omega arith;
        cells = r.cells;
        printed = r.printed;
        outside = r.outside;
        inside = r.inside;
        globals = r.globals;
        rest = r.rest;
        frame = r.frame;
      })

  -- one more tick, and a statement behind it: the ticks that are left are fewer
  abbrev Later : (globals : List Entry) (outer : List (List Entry)) (inner : List Entry) → (Exit → doing.Does Variables A) → ℕ → ℕ → Does Exit → Type 0
  Later globals outer inner K again m rest = (n : ℕ) → suc n ≤ m → (s : State Variables) (t : State Cells) → Stands n (at globals outer inner) [] s t → Same F ((rest >>= K) s) (machine p depth frames again [] t)

  module _ (globals : List Entry) (result : Returning) (outer : List (List Entry)) (inner : List Entry) where
    -- begin: Tick; the body; next: the step; again: the test, leading to begin or end
    module _ (test : Does Value) (body step : Does Exit) (begin next again end : ℕ)
        (tests : (bound : ℕ) → Decided p depth A F frames bound (at globals outer inner) [] test again begin end)
        (bodies : (bound : ℕ) → Runs p depth A F frames bound globals result outer inner inner end next body (suc begin) next)
        (steps : (bound : ℕ) → Runs p depth A F frames bound globals NoReturn outer inner inner again again step next again)
        (ticking : Has p begin code.Tick) where
      module _ (bound out again' : ℕ) (K : Exit → doing.Does Variables A) (k : Leads p depth A F frames bound globals result outer inner inner end out again' K) where
        stepped : (m n : ℕ) (rest : Does Exit) → Later globals outer inner K again m rest → suc n ≤ m → (s : State Variables) (t : State Cells) → Stands n (at globals outer inner) [] s t → Same F (((step >> rest) >>= K) s) (machine p depth frames next [] t)
        unfolding ◌>>=◌ ◌>>◌
        stepped m n rest go le s t r =
            left_is (ap (λ d. d s) (in_turn_then step rest K))
            (steps n (λ _. rest >>= K) (record {
              went = λ s' t' r'. go n le s' t' r';
              broke = λ s' t' r'. go n le s' t' r';
              continued = λ s' t' r'. go n le s' t' r';
              returned = λ of is from v s' t' fit r'. absurd cc;
              returned_nothing = λ may s' t' r'. absurd may;
            }) s t r)

        behind_is : (m n : ℕ) (rest : Does Exit) → Later globals outer inner K again m rest → suc n ≤ m → n ≤ bound → Leads p depth A F frames n globals result outer inner inner next end next (λ exit. behind_body exit (step >> rest) >>= K)
        unfolding ◌>>=◌ then_do behind_body pure
        behind_is m n rest go le low = record {
          went = stepped m n rest go le;
          broke = λ s t r. k.went s t (weaker n bound (at globals outer inner) [] s t low r);
          continued = stepped m n rest go le;
          returned = λ of is from v s t fit r. k.returned of is from v s t fit (weaker n bound (at globals outer inner) [] s t low r);
          returned_nothing = λ may s t r. k.returned_nothing may s t (weaker n bound (at globals outer inner) [] s t low r);
        }

        -- one turn
        turn_goes : (m : ℕ) (rest : Does Exit) → m ≤ bound → Later globals outer inner K again m rest → (s : State Variables) (t : State Cells) → Stands m (at globals outer inner) [] s t → Same F ((turn test body step rest >>= K) s) (machine p depth frames again [] t)
        unfolding turn ◌>>◌ then_do tick ◌>>=◌ pure
        turn_goes m rest low go s t r =
            left_is (ap (λ d. d s) (in_turn test (λ v. if is_zero v then pure WentOn else tick >> (body >>= (λ exit. behind_body exit (step >> rest)))) K))
            (tests m (λ zero. (if zero then pure WentOn else tick >> (body >>= (λ exit. behind_body exit (step >> rest)))) >>= K) [] (λ s' t' r'.
            both (ticked s') (ticks p depth goes frames begin ticking [] t')
            (tick_same m (at globals outer inner) [] s' t' r' (body >>= (λ exit. behind_body exit (step >> rest) >>= K)) (machine p depth frames (suc begin) [])
            (λ n le r''. bodies n (λ exit. behind_body exit (step >> rest) >>= K) (behind_is m n rest go le (omega (arith, le, low))) (record s' { ticks = n }) (record t' { ticks = n }) r'')))
            (λ s' t' r'. k.went s' t' (weaker m bound (at globals outer inner) [] s' t' low r')) s t r)
          where
            ticked : (s' : State Variables) → ((tick >> (body >>= (λ exit. behind_body exit (step >> rest)))) >>= K) s' ≡ then_do (counted s' s'.ticks) (λ _. body >>= (λ exit. behind_body exit (step >> rest) >>= K))
            ticked s' = ap (λ d. d s') (in_turn_then tick (body >>= (λ exit. behind_body exit (step >> rest))) K) ∙ ap (λ d. then_do (tick s') (λ _. d)) (in_turn body (λ exit. behind_body exit (step >> rest)) K)

        -- so many turns as there are ticks
        turns_go : (m : ℕ) → m ≤ bound → (s : State Variables) (t : State Cells) → Stands m (at globals outer inner) [] s t → Same F ((turns m test body step >>= K) s) (machine p depth frames again [] t)
        unfolding turns ◌>>=◌
        turns_go zero low s t r = turn_goes zero (trap StepLimit) low (λ n le. absurd (omega (arith, le))) s t r
        turns_go (suc m) low s t r = turn_goes (suc m) (turns m test body step) low (λ n le s' t' r'. turns_go m (omega (arith, low)) s' t' (weaker n m (at globals outer inner) [] s' t' (omega (arith, le)) r')) s t r

        loop_is : (s : State Variables) → (loop test body step >>= K) s ≡ (turns s.ticks test body step >>= K) s
        unfolding loop ◌>>=◌ then_do ticks_left
        loop_is s = refl

        pub loop_goes : (s : State Variables) (t : State Cells) → Stands bound (at globals outer inner) [] s t → Same F ((loop test body step >>= K) s) (machine p depth frames again [] t)
        loop_goes s t r = left_is (loop_is s) (turns_go s.ticks r.low s t (exactly bound (at globals outer inner) [] s t r))

    -- begin: Tick; the body; again: the test, leading to begin or end
    module _ (test : Does Value) (body : Does Exit) (begin again end : ℕ)
        (tests : (bound : ℕ) → Decided p depth A F frames bound (at globals outer inner) [] test again begin end)
        (bodies : (bound : ℕ) → Runs p depth A F frames bound globals result outer inner inner end again body (suc begin) again)
        (ticking : Has p begin code.Tick) where
      module _ (bound out again' : ℕ) (K : Exit → doing.Does Variables A) (k : Leads p depth A F frames bound globals result outer inner inner end out again' K) where
        -- the test behind the body
        tested : (m n : ℕ) (rest : Does Exit) → Later globals outer inner K begin m rest → suc n ≤ m → n ≤ bound → (s : State Variables) (t : State Cells) → Stands n (at globals outer inner) [] s t →
            Same F (((test >>= (λ v. if is_zero v then pure WentOn else rest)) >>= K) s) (machine p depth frames again [] t)
        unfolding ◌>>=◌ then_do pure
        tested m n rest go le low s t r =
            left_is (ap (λ d. d s) (in_turn test (λ v. if is_zero v then pure WentOn else rest) K))
            (tests n (λ zero. (if zero then pure WentOn else rest) >>= K) [] (λ s' t' r'. go n le s' t' r') (λ s' t' r'. k.went s' t' (weaker n bound (at globals outer inner) [] s' t' low r')) s t r)

        behind_body_is : (m n : ℕ) (rest : Does Exit) → Later globals outer inner K begin m rest → suc n ≤ m → n ≤ bound →
            Leads p depth A F frames n globals result outer inner inner again end again (λ exit. behind_body exit (test >>= (λ v. if is_zero v then pure WentOn else rest)) >>= K)
        unfolding ◌>>=◌ then_do behind_body pure
        behind_body_is m n rest go le low = record {
          went = tested m n rest go le low;
          broke = λ s t r. k.went s t (weaker n bound (at globals outer inner) [] s t low r);
          continued = tested m n rest go le low;
          returned = λ of is from v s t fit r. k.returned of is from v s t fit (weaker n bound (at globals outer inner) [] s t low r);
          returned_nothing = λ may s t r. k.returned_nothing may s t (weaker n bound (at globals outer inner) [] s t low r);
        }

        do_turn_goes : (m : ℕ) (rest : Does Exit) → m ≤ bound → Later globals outer inner K begin m rest → (s : State Variables) (t : State Cells) → Stands m (at globals outer inner) [] s t → Same F ((do_turn test body rest >>= K) s) (machine p depth frames begin [] t)
        unfolding do_turn ◌>>◌ then_do tick
        do_turn_goes m rest low go s t r =
            both ticked (ticks p depth goes frames begin ticking [] t)
            (tick_same m (at globals outer inner) [] s t r (body >>= (λ exit. behind_body exit (test >>= (λ v. if is_zero v then pure WentOn else rest)) >>= K)) (machine p depth frames (suc begin) [])
            (λ n le r'. bodies n (λ exit. behind_body exit (test >>= (λ v. if is_zero v then pure WentOn else rest)) >>= K) (behind_body_is m n rest go le (omega (arith, le, low))) (record s { ticks = n }) (record t { ticks = n }) r'))
          where
            ticked : (do_turn test body rest >>= K) s ≡ then_do (counted s s.ticks) (λ _. body >>= (λ exit. behind_body exit (test >>= (λ v. if is_zero v then pure WentOn else rest)) >>= K))
            ticked = ap (λ d. d s) (in_turn_then tick (body >>= (λ exit. behind_body exit (test >>= (λ v. if is_zero v then pure WentOn else rest)))) K)
                ∙ ap (λ d. then_do (tick s) (λ _. d)) (in_turn body (λ exit. behind_body exit (test >>= (λ v. if is_zero v then pure WentOn else rest))) K)

        do_turns_go : (m : ℕ) → m ≤ bound → (s : State Variables) (t : State Cells) → Stands m (at globals outer inner) [] s t → Same F ((do_turns m test body >>= K) s) (machine p depth frames begin [] t)
        unfolding do_turns ◌>>=◌
        do_turns_go zero low s t r = do_turn_goes zero (trap StepLimit) low (λ n le. absurd (omega (arith, le))) s t r
        do_turns_go (suc m) low s t r = do_turn_goes (suc m) (do_turns m test body) low (λ n le s' t' r'. do_turns_go m (omega (arith, low)) s' t' (weaker n m (at globals outer inner) [] s' t' (omega (arith, le)) r')) s t r

        do_loop_is : (s : State Variables) → (do_loop test body >>= K) s ≡ (do_turns s.ticks test body >>= K) s
        unfolding do_loop ◌>>=◌ then_do ticks_left
        do_loop_is s = refl

        pub do_loop_goes : (s : State Variables) (t : State Cells) → Stands bound (at globals outer inner) [] s t → Same F ((do_loop test body >>= K) s) (machine p depth frames begin [] t)
        do_loop_goes s t r = left_is (do_loop_is s) (do_turns_go s.ticks r.low s t (exactly bound (at globals outer inner) [] s t r))

    -- ---- `while`, `do` and `for`

    module _ (around : Surroundings) (length_of : Size → ℕ) where
      pub stays_put : (here : ℕ) (bound : ℕ) → Runs p depth A F frames bound globals NoReturn outer inner inner here here (pure WentOn) here here
      unfolding ◌>>=◌ then_do pure
      stays_put here bound K k s t r = k.went s t r

      pub looping_runs : (bound out again a b c : ℕ) (x : While) → Has p a (code.Jump b) → Has p (suc a) code.Tick → ((n : ℕ) → Runs p depth A F frames n globals result outer inner inner c b (does around length_of (out-While x).body) (suc (suc a)) b) →
          ((n : ℕ) → Decided p depth A F frames n (at globals outer inner) [] (value around (out-While x).test) b (suc a) c) →
          Runs p depth A F frames bound globals result outer inner inner out again (does around length_of (stmts.While x)) a c
      looping_runs bound out again a b c x over ticking bodies tests K k s t r =
          both (ap (λ d. (d >>= K) s) (of_while around length_of x)) (jumps p depth goes frames a b over [] t)
          (loop_goes (value around (out-While x).test) (does around length_of (out-While x).body) (pure WentOn) (suc a) b b c tests bodies (stays_put b) ticking bound out again K k s t r)

      pub repeating_runs : (bound out again a b c : ℕ) (x : Do) → Has p a code.Tick → ((n : ℕ) → Runs p depth A F frames n globals result outer inner inner c b (does around length_of (out-Do x).body) (suc a) b) →
          ((n : ℕ) → Decided p depth A F frames n (at globals outer inner) [] (value around (out-Do x).test) b a c) →
          Runs p depth A F frames bound globals result outer inner inner out again (does around length_of (stmts.Do x)) a c
      repeating_runs bound out again a b c x ticking bodies tests K k s t r =
          left_is (ap (λ d. (d >>= K) s) (of_do around length_of x))
          (do_loop_goes (value around (out-Do x).test) (does around length_of (out-Do x).body) a b c tests bodies ticking bound out again K k s t r)

      pub counting_runs : (bound out again a b c d e : ℕ) (x : For) →
          Runs p depth A F frames bound globals NoReturn outer inner inner b b (or_nothing (option_map (does around length_of) (out-For x).first)) a b → Has p b (code.Jump d) → Has p (suc b) code.Tick →
          ((n : ℕ) → Runs p depth A F frames n globals result outer inner inner e c (does around length_of (out-For x).body) (suc (suc b)) c) → ((n : ℕ) → Runs p depth A F frames n globals NoReturn outer inner inner d d (or_nothing (option_map (does around length_of) (out-For x).step)) c d) →
          ((n : ℕ) → Decided p depth A F frames n (at globals outer inner) [] (or_true around length_of (out-For x).test) d (suc b) e) →
          Runs p depth A F frames bound globals result outer inner inner out again (does around length_of (stmts.For x)) a e
      unfolding ◌>>=◌ ◌>>◌
      counting_runs bound out again a b c d e x firsts over ticking bodies steps tests K k s t r =
          left_is (ap (λ f. (f >>= K) s) (of_for around length_of x) ∙ ap (λ f. f s) (in_turn_then (or_nothing (option_map (does around length_of) (out-For x).first)) (loop (or_true around length_of (out-For x).test) (does around length_of (out-For x).body) (or_nothing (option_map (does around length_of) (out-For x).step))) K))
          (firsts (λ _. loop (or_true around length_of (out-For x).test) (does around length_of (out-For x).body) (or_nothing (option_map (does around length_of) (out-For x).step)) >>= K) (record {
            went = loops;
            broke = loops;
            continued = loops;
            returned = λ of' is from v s' t' fit r'. absurd cc;
            returned_nothing = λ may s' t' r'. absurd may;
          }) s t r)
        where
          loops : (s' : State Variables) (t' : State Cells) → Stands bound (at globals outer inner) [] s' t' → Same F ((loop (or_true around length_of (out-For x).test) (does around length_of (out-For x).body) (or_nothing (option_map (does around length_of) (out-For x).step)) >>= K) s') (machine p depth frames b [] t')
          loops s' t' r' = right_is (jumps p depth goes frames b d over [] t') (loop_goes (or_true around length_of (out-For x).test) (does around length_of (out-For x).body) (or_nothing (option_map (does around length_of) (out-For x).step)) (suc b) c d e tests bodies steps ticking bound out again K k s' t' r')
