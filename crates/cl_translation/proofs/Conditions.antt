-- The code of a condition leads where its expression says.
use Rattle.std.proofs.Common.{◌≡◌, ℕ, suc, Bool, true, false, List, [], ◌∷◌, Some, refl, sym, ap, subst, ◌∙◌, map}
use Rattle.std.proofs.Math.Path.{fun_ext}
use Rattle.std.specs.Prelude.{ℤ, not, if◌then◌else◌, int_lt, Ok}
use Rattle.std.specs.Ordering.{int_eq}
use Rattle.cl_value.specs.declared.value.Value.{Value}
use Rattle.cl_ast.specs.declared.tree.TypeName.{TypeName}
use Rattle.cl_ast.specs.declared.tree.TypeName.TheVariants as types
use Rattle.cl_ast.specs.declared.tree.Expr.{Expr}
use Rattle.cl_ast.specs.declared.tree.Expr.TheVariants as exprs
use Rattle.cl_ast.specs.declared.tree.Operator.{Operator}
use Rattle.cl_ast.specs.declared.tree.Operator.TheVariants as operators
use Rattle.cl_ast.specs.declared.tree.Chain.{Chain, out-Chain}
use Rattle.cl_ast.specs.declared.tree.Link.{Link, out-Link}
use Rattle.cl_ast.specs.declared.tree.Prefix.{Prefix, out-Prefix}
use Rattle.cl_model.specs.Doing.{State, then_do, ◌>>=◌, pure, checked, through}
use Rattle.cl_model.specs.Doing as doing
use Rattle.cl_model.specs.Numbers.{number, truth, is_zero}
use Rattle.cl_meaning.specs.Operators.{operated}
use Rattle.cl_meaning.specs.Variables.{Variables}
use Rattle.cl_meaning.specs.Operations.{Does}
use Rattle.cl_meaning.specs.Expressions.{Surroundings, value, joined}
use Rattle.cl_meaning.specs.Parts.{link_value}
use Rattle.cl_meaning.proofs.Equations.{of_chain, of_not}
use Rattle.cl_code.specs.Plain.{PlainProgram}
use Rattle.cl_code.specs.Arithmetic as arithmetic
use Rattle.cl_code.specs.Arithmetic.{is_at_most}
use Rattle.cl_code.specs.Machine.{Cells, Stack, Frame, effect, tested, on_two, follow, machine}
use Rattle.cl_code.specs.declared.instr.Instr.{Instr}
use Rattle.cl_code.specs.declared.instr.Instr.TheVariants as code
use Rattle.cl_translation.specs.Layout.{Layout}
use Rattle.cl_translation.specs.Stands.{Stands}
use Rattle.cl_translation.specs.Chosen.{operator_code, opposite}
use Rattle.cl_translation.specs.Lying.{Has}
use Rattle.cl_translation.proofs.Alike.{Same}
use Rattle.cl_translation.proofs.Means.{Goes, End, Evaluates, Decided}
use Rattle.cl_translation.proofs.Notation.{in_turn, left_is, right_is}
use Rattle.cl_translation.proofs.Steps.{at, jumps, jumps_zero, inverts}
use Rattle.cl_translation.proofs.Operators.{RemainderAgrees}
use Rattle.cl_translation.proofs.Chains.{joined_is, both_left, either_left}

twice_not : (b : Bool) → b ≡ not (not b)
twice_not true = refl
twice_not false = refl

zero_truth : (b : Bool) → is_zero (truth b) ≡ not b
zero_truth true = refl
zero_truth false = refl

-- a comparison has an instruction of its own
compares : (o : Operator) (i : Instr) → opposite o ≡ Some i → (j : Instr) × (operator_code o types.Int ≡ Some j)
compares operators.Equal i is = (code.Equal, refl)
compares operators.NotEqual i is = (code.NotEqual, refl)
compares operators.Less i is = (code.Less, refl)
compares operators.LessEqual i is = (code.LessEqual, refl)
compares operators.Greater i is = (code.Greater, refl)
compares operators.GreaterEqual i is = (code.GreaterEqual, refl)
compares operators.Add i is = absurd cc
compares operators.Subtract i is = absurd cc
compares operators.Multiply i is = absurd cc
compares operators.Divide i is = absurd cc
compares operators.Remainder i is = absurd cc
compares operators.And i is = absurd cc
compares operators.Or i is = absurd cc

-- each link has this operator
abbrev pub AllAre : Operator → List Link → Type 0
AllAre o [] = Unit {0}
AllAre o (l ∷ ls) = ((out-Link l).operator ≡ o) × AllAre o ls

module _ (p : PlainProgram) (depth : ℕ) where
  -- what a comparison gives of two values, and that its opposite gives the other
  record Opposes (o : Operator) (i : Instr) (a b : Value) : Type 0 where
    holds : Bool
    is : operated o a b ≡ Ok (truth holds)
    test : ℤ → ℤ → Bool
    runs : (stack : Stack) → effect p depth i stack ≡ tested test stack
    other : test (number a) (number b) ≡ not holds

  opposes : (o : Operator) (i : Instr) → opposite o ≡ Some i → (a b : Value) → Opposes o i a b
  unfolding effect
  opposes operators.Equal i is a b =
      let e : code.NotEqual ≡ i = cc in
      subst (λ k. Opposes operators.Equal k a b) e (record { holds = int_eq (number a) (number b); is = refl; test = λ x y. not (int_eq x y); runs = λ stack. refl; other = refl })
  opposes operators.NotEqual i is a b =
      let e : code.Equal ≡ i = cc in
      subst (λ k. Opposes operators.NotEqual k a b) e (record { holds = not (int_eq (number a) (number b)); is = refl; test = int_eq; runs = λ stack. refl; other = twice_not (int_eq (number a) (number b)) })
  opposes operators.Less i is a b =
      let e : code.GreaterEqual ≡ i = cc in
      subst (λ k. Opposes operators.Less k a b) e (record { holds = int_lt (number a) (number b); is = refl; test = λ x y. is_at_most y x; runs = λ stack. refl; other = refl })
  opposes operators.GreaterEqual i is a b =
      let e : code.Less ≡ i = cc in
      subst (λ k. Opposes operators.GreaterEqual k a b) e (record { holds = not (int_lt (number a) (number b)); is = refl; test = int_lt; runs = λ stack. refl; other = twice_not (int_lt (number a) (number b)) })
  opposes operators.Greater i is a b =
      let e : code.LessEqual ≡ i = cc in
      subst (λ k. Opposes operators.Greater k a b) e (record { holds = int_lt (number b) (number a); is = refl; test = is_at_most; runs = λ stack. refl; other = refl })
  opposes operators.LessEqual i is a b =
      let e : code.Greater ≡ i = cc in
      subst (λ k. Opposes operators.LessEqual k a b) e (record { holds = not (int_lt (number b) (number a)); is = refl; test = λ x y. int_lt y x; runs = λ stack. refl; other = twice_not (int_lt (number b) (number a)) })
  opposes operators.Add i is a b = absurd cc
  opposes operators.Subtract i is a b = absurd cc
  opposes operators.Multiply i is a b = absurd cc
  opposes operators.Divide i is a b = absurd cc
  opposes operators.Remainder i is a b = absurd cc
  opposes operators.And i is a b = absurd cc
  opposes operators.Or i is a b = absurd cc

module _ (p : PlainProgram) (depth : ℕ) (A : Type 0) (F : End A) (goes : Goes p depth) (frames : List Frame) (bound : ℕ) (layout : Layout) (held : List ℤ) where
  abbrev Is : Does Value → ℕ → ℕ → ℕ → Type 0
  Is = Decided p depth A F frames bound layout held

  pub by_value_decides : (d : Does Value) (of : TypeName) (a b off : ℕ) → Evaluates p depth A F frames bound layout held d of a b → Has p b (code.JumpZero off) → Is d a (suc b) off
  by_value_decides d of a b off ih h K stack yes_goes no_goes s t r =
      ih (λ v. K (is_zero v)) stack (λ v s' t' fit r'. right_is (jumps_zero p depth goes frames b off h (number v) stack t') (by (is_zero v) s' t' r')) s t r
    where
      by : (test : Bool) (s' : State Variables) (t' : State Cells) → Stands bound layout held s' t' → Same F (K test s') (if test then machine p depth frames off stack t' else machine p depth frames (suc b) stack t')
      by true s' t' r' = no_goes s' t' r'
      by false s' t' r' = yes_goes s' t' r'

  -- a number that is 1 or 0, and the jump
  jumps_by : (b on : ℕ) → Has p b (code.JumpZero on) → (test : Bool) (stack : Stack) (t : State Cells) → machine p depth frames b (arithmetic.truth test ∷ stack) t ≡ (if test then machine p depth frames (suc b) stack t else machine p depth frames on stack t)
  jumps_by b on h true stack t = jumps_zero p depth goes frames b on h (arithmetic.truth true) stack t
  jumps_by b on h false stack t = jumps_zero p depth goes frames b on h (arithmetic.truth false) stack t

  pub by_inverse_decides : (d : Does Value) (of : TypeName) (a b on : ℕ) → Evaluates p depth A F frames bound layout held d of a b → Has p b code.Not → Has p (suc b) (code.JumpZero on) → Is d a on (suc (suc b))
  by_inverse_decides d of a b on ih inverse h K stack yes_goes no_goes s t r =
      ih (λ v. K (is_zero v)) stack (λ v s' t' fit r'. right_is (inverts p depth goes frames b inverse (number v) stack t' ∙ jumps_by (suc b) on h (is_zero v) stack t') (by (is_zero v) s' t' r')) s t r
    where
      by : (test : Bool) (s' : State Variables) (t' : State Cells) → Stands bound layout held s' t' → Same F (K test s') (if test then machine p depth frames (suc (suc b)) stack t' else machine p depth frames on stack t')
      by true s' t' r' = no_goes s' t' r'
      by false s' t' r' = yes_goes s' t' r'

  pub jumping_yes_decides : (d : Does Value) (a b on off : ℕ) → Is d a b off → Has p b (code.Jump on) → Is d a on off
  jumping_yes_decides d a b on off ih h K stack yes_goes no_goes s t r =
      ih K stack (λ s' t' r'. right_is (jumps p depth goes frames b on h stack t') (yes_goes s' t' r')) no_goes s t r

  pub jumping_no_decides : (d : Does Value) (a b on off : ℕ) → Is d a on b → Has p b (code.Jump off) → Is d a on off
  jumping_no_decides d a b on off ih h K stack yes_goes no_goes s t r =
      ih K stack yes_goes (λ s' t' r'. right_is (jumps p depth goes frames b off h stack t') (no_goes s' t' r')) s t r

  -- giving it on is nothing more
  given_on : (d : Does Value) (K : Value → doing.Does Variables A) → (d >>= pure) >>= K ≡ d >>= K
  unfolding ◌>>=◌ then_do pure
  given_on d K = in_turn d pure K

  module _ (around : Surroundings) where
    turned : (K : Bool → doing.Does Variables A) (v : Value) → pure (truth (is_zero v)) >>= (λ w. K (is_zero w)) ≡ K (not (is_zero v))
    unfolding ◌>>=◌ then_do pure
    turned K v = ap K (zero_truth (is_zero v))

    pub exchanging_decides : (x : Prefix) (a on off : ℕ) → Is (value around (out-Prefix x).operand) a off on → Is (value around (exprs.Not x)) a on off
    exchanging_decides x a on off ih K stack yes_goes no_goes s t r =
        left_is (ap (λ d. (d >>= (λ v. K (is_zero v))) s) (of_not around x) ∙ (ap (λ d. d s) (in_turn (value around (out-Prefix x).operand) (λ v. pure (truth (is_zero v))) (λ v. K (is_zero v)))
        ∙ ap (λ go. (value around (out-Prefix x).operand >>= go) s) (fun_ext (λ v. turned K v))))
        (ih (λ b. K (not b)) stack (λ s' t' r'. no_goes s' t' r') (λ s' t' r'. yes_goes s' t' r') s t r)

    abbrev rest : List Link → Value → Does Value
    rest ls = through (map (link_value around) ls)

    one_link : (l : Link) (o : Operator) (i : Instr) → (out-Link l).operator ≡ o → opposite o ≡ Some i → (v : Value) (K : Value → doing.Does Variables A) →
        rest (l ∷ []) v >>= K ≡ value around (out-Link l).operand >>= (λ w. checked (operated o v w) >>= K)
    unfolding through
    one_link l o i same is v K =
        let right = value around (out-Link l).operand in
        let j = compares o i is in
        ap (λ q. (joined q right v >>= pure) >>= K) same
        ∙ (given_on (joined o right v) K
        ∙ (ap (λ d. d >>= K) (joined_is o types.Int j.0 j.1 right v)
        ∙ in_turn right (λ w. checked (operated o v w)) K))

    of_checked : (v : Value) (K : Value → doing.Does Variables A) (s : State Variables) → (checked (Ok v) >>= K) s ≡ K v s
    unfolding ◌>>=◌ then_do checked pure
    of_checked v K s = refl

    tests : (c : ℕ) (i : Instr) (test : ℤ → ℤ → Bool) → ((stack : Stack) → effect p depth i stack ≡ tested test stack) → Has p c i → (x y : ℤ) (stack : Stack) (t : State Cells) →
        machine p depth frames c (y ∷ x ∷ stack) t ≡ machine p depth frames (suc c) (arithmetic.truth (test x y) ∷ stack) t
    unfolding on_two checked then_do ◌>>=◌ pure follow
    tests c i test runs h x y stack t = at p depth goes frames c i h (y ∷ x ∷ stack) t ∙ ap (λ d. then_do (d t) (Rattle.cl_code.specs.Following.follows p depth frames (suc c))) (runs (y ∷ x ∷ stack))

    pub by_comparison_decides : (a b c on : ℕ) (x : Chain) (l : Link) (left right : TypeName) (i : Instr) → (out-Chain x).others ≡ l ∷ [] → Evaluates p depth A F frames bound layout held (value around (out-Chain x).first) left a b →
        Evaluates p depth A F frames bound layout held (value around (out-Link l).operand) right b c → opposite (out-Link l).operator ≡ Some i → Has p c i → Has p (suc c) (code.JumpZero on) → Is (value around (exprs.Chain x)) a on (suc (suc c))
    by_comparison_decides a b c on x l left right i one ih1 ih2 is h jump K stack yes_goes no_goes s t r =
        left_is (ap (λ d. (d >>= (λ u. K (is_zero u))) s) (of_chain around x) ∙ (ap (λ ls. ((value around (out-Chain x).first >>= rest ls) >>= (λ u. K (is_zero u))) s) one
        ∙ ap (λ d. d s) (in_turn (value around (out-Chain x).first) (rest (l ∷ [])) (λ u. K (is_zero u)))))
        (ih1 (λ v. rest (l ∷ []) v >>= (λ u. K (is_zero u))) stack (λ v s1 t1 fit1 r1.
        left_is (ap (λ d. d s1) (one_link l (out-Link l).operator i refl is v (λ u. K (is_zero u))))
        (ih2 (λ w. checked (operated (out-Link l).operator v w) >>= (λ u. K (is_zero u))) (number v ∷ stack) (λ w s2 t2 fit2 r2. compared v w (opposes p depth (out-Link l).operator i is v w) s2 t2 r2) s1 t1 r1)) s t r)
      where
        by : (test : Bool) (s' : State Variables) (t' : State Cells) → Stands bound layout held s' t' → Same F (K (is_zero (truth test)) s') (if not test then machine p depth frames (suc (suc c)) stack t' else machine p depth frames on stack t')
        by true s' t' r' = yes_goes s' t' r'
        by false s' t' r' = no_goes s' t' r'

        compared : (v w : Value) → Opposes p depth (out-Link l).operator i v w → (s' : State Variables) (t' : State Cells) → Stands bound layout held s' t' →
            Same F ((checked (operated (out-Link l).operator v w) >>= (λ u. K (is_zero u))) s') (machine p depth frames c (number w ∷ number v ∷ stack) t')
        compared v w k s' t' r' =
            left_is (ap (λ x'. (checked x' >>= (λ u. K (is_zero u))) s') k.is ∙ of_checked (truth k.holds) (λ u. K (is_zero u)) s')
            (right_is (tests c i k.test k.runs h (number v) (number w) stack t' ∙ (ap (λ q. machine p depth frames (suc c) (arithmetic.truth q ∷ stack) t') k.other ∙ jumps_by (suc c) on jump (not k.holds) stack t'))
            (by k.holds s' t' r'))

    -- ---- `&&` and `||`

    module _ (remainders : RemainderAgrees) where
      -- at a value nothing more is done
      at_end : (v : Value) (K : Bool → doing.Does Variables A) (s : State Variables) → (rest [] v >>= (λ u. K (is_zero u))) s ≡ K (is_zero v) s
      unfolding through ◌>>=◌ then_do pure
      at_end v K s = refl

      -- behind 0 each `&&` leaves 0
      all_zero : (ls : List Link) → AllAre operators.And ls → (v : Value) → is_zero v ≡ true → (K : Bool → doing.Does Variables A) (s : State Variables) → (rest ls v >>= (λ u. K (is_zero u))) s ≡ K true s
      all_zero [] are v z K s = at_end v K s ∙ ap (λ b. K b s) z
      all_zero (l ∷ ls) are v z K s =
          both_left p depth A F goes frames bound layout held remainders around l ls are.0 v (λ u. K (is_zero u)) s
          ∙ (ap (λ b. if b then (rest ls (truth false) >>= (λ u. K (is_zero u))) s else (value around (out-Link l).operand >>= (λ w. rest ls (truth (not (is_zero w))) >>= (λ u. K (is_zero u)))) s) z
          ∙ all_zero ls are.1 (truth false) refl K s)

      -- behind another number each `||` leaves 1
      any_one : (ls : List Link) → AllAre operators.Or ls → (v : Value) → is_zero v ≡ false → (K : Bool → doing.Does Variables A) (s : State Variables) → (rest ls v >>= (λ u. K (is_zero u))) s ≡ K false s
      any_one [] are v z K s = at_end v K s ∙ ap (λ b. K b s) z
      any_one (l ∷ ls) are v z K s =
          either_left p depth A F goes frames bound layout held remainders around l ls are.0 v (λ u. K (is_zero u)) s
          ∙ (ap (λ b. if b then (value around (out-Link l).operand >>= (λ w. rest ls (truth (not (is_zero w))) >>= (λ u. K (is_zero u)))) s else (rest ls (truth true) >>= (λ u. K (is_zero u))) s) z
          ∙ any_one ls are.1 (truth true) refl K s)

      -- only whether it is 0 matters
      all_same : (ls : List Link) → AllAre operators.And ls → (v w : Value) → is_zero v ≡ is_zero w → (K : Bool → doing.Does Variables A) (s : State Variables) → (rest ls v >>= (λ u. K (is_zero u))) s ≡ (rest ls w >>= (λ u. K (is_zero u))) s
      all_same [] are v w e K s = at_end v K s ∙ (ap (λ b. K b s) e ∙ sym (at_end w K s))
      all_same (l ∷ ls) are v w e K s =
          both_left p depth A F goes frames bound layout held remainders around l ls are.0 v (λ u. K (is_zero u)) s
          ∙ (ap (λ b. if b then (rest ls (truth false) >>= (λ u. K (is_zero u))) s else (value around (out-Link l).operand >>= (λ w'. rest ls (truth (not (is_zero w'))) >>= (λ u. K (is_zero u)))) s) e
          ∙ sym (both_left p depth A F goes frames bound layout held remainders around l ls are.0 w (λ u. K (is_zero u)) s))

      any_same : (ls : List Link) → AllAre operators.Or ls → (v w : Value) → is_zero v ≡ is_zero w → (K : Bool → doing.Does Variables A) (s : State Variables) → (rest ls v >>= (λ u. K (is_zero u))) s ≡ (rest ls w >>= (λ u. K (is_zero u))) s
      any_same [] are v w e K s = at_end v K s ∙ (ap (λ b. K b s) e ∙ sym (at_end w K s))
      any_same (l ∷ ls) are v w e K s =
          either_left p depth A F goes frames bound layout held remainders around l ls are.0 v (λ u. K (is_zero u)) s
          ∙ (ap (λ b. if b then (value around (out-Link l).operand >>= (λ w'. rest ls (truth (not (is_zero w'))) >>= (λ u. K (is_zero u)))) s else (rest ls (truth true) >>= (λ u. K (is_zero u))) s) e
          ∙ sym (either_left p depth A F goes frames bound layout held remainders around l ls are.0 w (λ u. K (is_zero u)) s))

      zero_same : (w : Value) → is_zero (truth (not (is_zero w))) ≡ is_zero w
      zero_same w = zero_truth (not (is_zero w)) ∙ sym (twice_not (is_zero w))

      pub last_decides : (x : Expr) (a on off : ℕ) → Is (value around x) a on off → Is (value around x >>= rest []) a on off
      unfolding through
      last_decides x a on off ih K stack yes_goes no_goes s t r = left_is (ap (λ d. d s) (given_on (value around x) (λ v. K (is_zero v)))) (ih K stack yes_goes no_goes s t r)

      pub and_decides : (x : Expr) (l : Link) (ls : List Link) (a b on off : ℕ) → (out-Link l).operator ≡ operators.And → AllAre operators.And ls → Is (value around x) a b off → Is (value around (out-Link l).operand >>= rest ls) b on off →
          Is (value around x >>= rest (l ∷ ls)) a on off
      and_decides x l ls a b on off is are ih more K stack yes_goes no_goes s t r =
          left_is (ap (λ d. d s) (in_turn (value around x) (rest (l ∷ ls)) (λ u. K (is_zero u))) ∙ ap (λ go. (value around x >>= go) s) (fun_ext (λ v. fun_ext (λ s'. opened v s'))))
          (ih both_ways stack (λ s' t' r'. more K stack yes_goes no_goes s' t' r') no_goes s t r)
        where
          both_ways : Bool → doing.Does Variables A
          both_ways test = if test then K true else (value around (out-Link l).operand >>= rest ls) >>= (λ u. K (is_zero u))

          right_side : (s' : State Variables) → (value around (out-Link l).operand >>= (λ w. rest ls (truth (not (is_zero w))) >>= (λ u. K (is_zero u)))) s' ≡ ((value around (out-Link l).operand >>= rest ls) >>= (λ u. K (is_zero u))) s'
          right_side s' = ap (λ go. (value around (out-Link l).operand >>= go) s') (fun_ext (λ w. fun_ext (λ s''. all_same ls are (truth (not (is_zero w))) w (zero_same w) K s'')))
              ∙ sym (ap (λ d. d s') (in_turn (value around (out-Link l).operand) (rest ls) (λ u. K (is_zero u))))

          by : (test : Bool) (s' : State Variables) → (if test then (rest ls (truth false) >>= (λ u. K (is_zero u))) s' else (value around (out-Link l).operand >>= (λ w. rest ls (truth (not (is_zero w))) >>= (λ u. K (is_zero u)))) s') ≡ (if test then K true else (value around (out-Link l).operand >>= rest ls) >>= (λ u. K (is_zero u))) s'
          by true s' = all_zero ls are (truth false) refl K s'
          by false s' = right_side s'

          opened : (v : Value) (s' : State Variables) → (rest (l ∷ ls) v >>= (λ u. K (is_zero u))) s' ≡ (if is_zero v then K true else (value around (out-Link l).operand >>= rest ls) >>= (λ u. K (is_zero u))) s'
          opened v s' = both_left p depth A F goes frames bound layout held remainders around l ls is v (λ u. K (is_zero u)) s' ∙ by (is_zero v) s'

      pub or_decides : (x : Expr) (l : Link) (ls : List Link) (a b on off : ℕ) → (out-Link l).operator ≡ operators.Or → AllAre operators.Or ls → Is (value around x) a on b → Is (value around (out-Link l).operand >>= rest ls) b on off →
          Is (value around x >>= rest (l ∷ ls)) a on off
      or_decides x l ls a b on off is are ih more K stack yes_goes no_goes s t r =
          left_is (ap (λ d. d s) (in_turn (value around x) (rest (l ∷ ls)) (λ u. K (is_zero u))) ∙ ap (λ go. (value around x >>= go) s) (fun_ext (λ v. fun_ext (λ s'. opened v s'))))
          (ih both_ways stack yes_goes (λ s' t' r'. more K stack yes_goes no_goes s' t' r') s t r)
        where
          both_ways : Bool → doing.Does Variables A
          both_ways test = if test then (value around (out-Link l).operand >>= rest ls) >>= (λ u. K (is_zero u)) else K false

          right_side : (s' : State Variables) → (value around (out-Link l).operand >>= (λ w. rest ls (truth (not (is_zero w))) >>= (λ u. K (is_zero u)))) s' ≡ ((value around (out-Link l).operand >>= rest ls) >>= (λ u. K (is_zero u))) s'
          right_side s' = ap (λ go. (value around (out-Link l).operand >>= go) s') (fun_ext (λ w. fun_ext (λ s''. any_same ls are (truth (not (is_zero w))) w (zero_same w) K s'')))
              ∙ sym (ap (λ d. d s') (in_turn (value around (out-Link l).operand) (rest ls) (λ u. K (is_zero u))))

          by : (test : Bool) (s' : State Variables) → (if test then (value around (out-Link l).operand >>= (λ w. rest ls (truth (not (is_zero w))) >>= (λ u. K (is_zero u)))) s' else (rest ls (truth true) >>= (λ u. K (is_zero u))) s') ≡ (if test then (value around (out-Link l).operand >>= rest ls) >>= (λ u. K (is_zero u)) else K false) s'
          by true s' = right_side s'
          by false s' = any_one ls are (truth true) refl K s'

          opened : (v : Value) (s' : State Variables) → (rest (l ∷ ls) v >>= (λ u. K (is_zero u))) s' ≡ (if is_zero v then (value around (out-Link l).operand >>= rest ls) >>= (λ u. K (is_zero u)) else K false) s'
          opened v s' = either_left p depth A F goes frames bound layout held remainders around l ls is v (λ u. K (is_zero u)) s' ∙ by (is_zero v) s'

      -- a whole chain
      pub chain_decides : (x : Chain) (a on off : ℕ) → Is (value around (out-Chain x).first >>= rest (out-Chain x).others) a on off → Is (value around (exprs.Chain x)) a on off
      chain_decides x a on off ih K stack yes_goes no_goes s t r = left_is (ap (λ d. (d >>= (λ u. K (is_zero u))) s) (of_chain around x)) (ih K stack yes_goes no_goes s t r)
