-- The code of operands with operators between them.
use Rattle.std.proofs.Common.{◌≡◌, ℕ, suc, Bool, true, false, List, [], ◌∷◌, Some, refl, sym, ap, ◌∙◌, map}
use Rattle.std.specs.Prelude.{ℤ, pos, neg_ℤ, not, if◌then◌else◌, Ok, Err}
use Rattle.cl_value.specs.declared.value.Value.{Value}
use Rattle.cl_ast.specs.declared.tree.TypeName.{TypeName}
use Rattle.cl_ast.specs.declared.tree.TypeName.TheVariants as types
use Rattle.cl_ast.specs.declared.tree.Expr.TheVariants as exprs
use Rattle.cl_ast.specs.declared.tree.Operator.{Operator}
use Rattle.cl_ast.specs.declared.tree.Operator.TheVariants as operators
use Rattle.cl_ast.specs.declared.tree.Chain.{Chain, out-Chain}
use Rattle.cl_ast.specs.declared.tree.Link.{Link, out-Link}
use Rattle.cl_model.specs.Doing.{Steps, Gives, Stops, State, then_do, ◌>>=◌, ◌>>◌, pure, checked, Checked, trap, through}
use Rattle.cl_model.specs.Doing as doing
use Rattle.cl_model.specs.Numbers.{number, truth, is_zero, negated}
use Rattle.cl_meaning.specs.Operators.{operated}
use Rattle.cl_meaning.specs.Variables.{Variables}
use Rattle.cl_meaning.specs.Operations.{Does}
use Rattle.cl_meaning.specs.Expressions.{Surroundings, value, joined, truth_of}
use Rattle.cl_meaning.specs.Parts.{link_value}
use Rattle.cl_meaning.proofs.Equations.{of_chain, of_negate}
use Rattle.cl_code.specs.Plain.{PlainProgram}
use Rattle.cl_code.specs.Arithmetic as arithmetic
use Rattle.cl_code.specs.Arithmetic.{fitting}
use Rattle.cl_ast.specs.declared.tree.Prefix.{Prefix, out-Prefix}
use Rattle.cl_code.specs.Machine.{Cells, Stack, Frame, On, effect, follow, machine, on_one, on_two}
use Rattle.cl_code.specs.Following.{follows}
use Rattle.cl_code.specs.declared.instr.Instr.{Instr}
use Rattle.cl_code.specs.declared.instr.Instr.TheVariants as code
use Rattle.cl_translation.proofs.Alike.{Same}
use Rattle.cl_translation.specs.Layout.{Layout}
use Rattle.cl_translation.specs.Stands.{IsIn, Stands}
use Rattle.cl_translation.specs.Chosen.{by_type, common, operator_code, operator_type}
use Rattle.cl_translation.proofs.Means.{Goes, End, GoesOn, Evaluates, GoesFrom}
use Rattle.cl_translation.proofs.Notation.{in_turn, both, left_is, right_is, same_trap}
use Rattle.cl_translation.proofs.Steps.{at, pushes_int, jumps, jumps_zero, inverts}
use Rattle.cl_translation.proofs.Operators.{Agree, RemainderAgrees, bits, arithmetic_agrees, computed, operator_agrees, operator_runs}
use Rattle.cl_translation.specs.Lying.{Has}

pub joined_is : (o : Operator) (t : TypeName) (i : Instr) → operator_code o t ≡ Some i → (right : Does Value) (a : Value) → joined o right a ≡ right >>= (λ b. checked (operated o a b))
unfolding joined
joined_is operators.Add t i is right a = refl
joined_is operators.Subtract t i is right a = refl
joined_is operators.Multiply t i is right a = refl
joined_is operators.Divide t i is right a = refl
joined_is operators.Remainder t i is right a = refl
joined_is operators.Equal t i is right a = refl
joined_is operators.NotEqual t i is right a = refl
joined_is operators.Less t i is right a = refl
joined_is operators.LessEqual t i is right a = refl
joined_is operators.Greater t i is right a = refl
joined_is operators.GreaterEqual t i is right a = refl
joined_is operators.And t i is right a = absurd cc
joined_is operators.Or t i is right a = absurd cc

truth_in : (test : Bool) → IsIn types.Int (truth test)
truth_in true = record { type = refl; within = refl }
truth_in false = record { type = refl; within = refl }

-- not not is whether it isn't 0
twice : (w : Value) → arithmetic.truth (arithmetic.is_zero (arithmetic.truth (arithmetic.is_zero (number w)))) ≡ number (truth (not (is_zero w)))
twice w = by (is_zero w)
  where
    by : (test : Bool) → arithmetic.truth (arithmetic.is_zero (arithmetic.truth test)) ≡ number (truth (not test))
    by true = refl
    by false = refl

module _ (p : PlainProgram) (depth : ℕ) (A : Type 0) (F : End A) (goes : Goes p depth) (frames : List Frame) (bound : ℕ) (layout : Layout) (held : List ℤ) where
  -- a value or a trap on both sides
  pub agreed : (of : TypeName) (c : Checked Value) (c' : Checked ℤ) → Agree of c c' → (K : Value → doing.Does Variables A) (b : ℕ) (stack : Stack) → GoesOn p depth A F frames bound layout held of b stack K → (s : State Variables) (t : State Cells) → Stands bound layout held s t →
      Same F ((checked c >>= K) s) (then_do ((checked c' >>= (λ n. pure (On (n ∷ stack)))) t) (follows p depth frames b))
  unfolding ◌>>=◌ then_do checked pure trap follow
  agreed of (Ok v) (Ok n) h K b stack k s t r = right_is (ap (λ m. machine p depth frames b (m ∷ stack) t) (sym h.1)) (k v s t h.0 r)
  agreed of (Err e) (Err e') h K b stack k s t r = right_is (ap (λ x. Stops x) (sym h)) (same_trap F e)
  agreed of (Ok v) (Err e') h K b stack k s t r = absurd h
  agreed of (Err e) (Ok n) h K b stack k s t r = absurd h

  module _ (remainders : RemainderAgrees) where
    two_on : (b : ℕ) (o : Operator) (l r : TypeName) (i : Instr) → operator_code o (common l r) ≡ Some i → Has p b i → (x y : ℤ) (stack : Stack) (t : State Cells) →
        machine p depth frames b (y ∷ x ∷ stack) t ≡ then_do ((checked (computed o (common l r) x y) >>= (λ n. pure (On (n ∷ stack)))) t) (follows p depth frames (suc b))
    unfolding on_two
    two_on b o l r i is h x y stack t = at p depth goes frames b i h (y ∷ x ∷ stack) t ∙ ap (λ d. then_do (d t) (follows p depth frames (suc b))) (operator_runs p depth o l r i is (y ∷ x ∷ stack))

    -- an operator of two numbers
    pub operates : (b : ℕ) (o : Operator) (l r : TypeName) (i : Instr) → operator_code o (common l r) ≡ Some i → Has p b i → (v w : Value) → IsIn l v → IsIn r w →
        (K : Value → doing.Does Variables A) (stack : Stack) → GoesOn p depth A F frames bound layout held (operator_type o (common l r)) (suc b) stack K → (s : State Variables) (t : State Cells) → Stands bound layout held s t →
        Same F ((checked (operated o v w) >>= K) s) (machine p depth frames b (number w ∷ number v ∷ stack) t)
    operates b o l r i is h v w fit fit' K stack k s t st =
        right_is (two_on b o l r i is h (number v) (number w) stack t)
        (agreed (operator_type o (common l r)) (operated o v w) (computed o (common l r) (number v) (number w)) (operator_agrees remainders o l r i is v w fit fit') K (suc b) stack k s t st)

    module _ (around : Surroundings) where
      abbrev pub LinksRun : List Link → TypeName → TypeName → ℕ → ℕ → Type 0
      LinksRun ls left of a b = (v : Value) → IsIn left v → GoesFrom p depth A F frames bound layout held v (through (map (link_value around) ls) v) of a b

      pub no_link_runs : (a : ℕ) (of : TypeName) → LinksRun [] of of a a
      unfolding through ◌>>=◌ then_do pure
      no_link_runs a of v fit K stack k s t r = k v s t fit r

      pub operating_runs : (a b c : ℕ) (l : Link) (ls : List Link) (left right of : TypeName) (i : Instr) → Evaluates p depth A F frames bound layout held (value around (out-Link l).operand) right a b →
          operator_code (out-Link l).operator (common left right) ≡ Some i → Has p b i → LinksRun ls (operator_type (out-Link l).operator (common left right)) of (suc b) c → LinksRun (l ∷ ls) left of a c
      unfolding through
      operating_runs a b c l ls left right of i ih is h rest v fit K stack k s t r =
          let o = (out-Link l).operator in
          let d = value around (out-Link l).operand in
          let more = through (map (link_value around) ls) in
          left_is (ap (λ e. ((e >>= more) >>= K) s) (joined_is o (common left right) i is d v)
          ∙ (ap (λ e. e s) (in_turn (d >>= (λ w. checked (operated o v w))) more K)
          ∙ ap (λ e. e s) (in_turn d (λ w. checked (operated o v w)) (λ u. more u >>= K))))
          (ih (λ w. checked (operated o v w) >>= (λ u. more u >>= K)) (number v ∷ stack) (λ w s' t' fit' r'.
          operates b o left right i is h v w fit fit' (λ u. more u >>= K) stack (λ u s'' t'' fit'' r''. rest u fit'' K stack k s'' t'' r'') s' t' r') s t r)

      pub both_left : (l : Link) (ls : List Link) → (out-Link l).operator ≡ operators.And → (v : Value) (K : Value → doing.Does Variables A) (s : State Variables) → (through (map (link_value around) (l ∷ ls)) v >>= K) s
          ≡ (if is_zero v then (through (map (link_value around) ls) (truth false) >>= K) s else (value around (out-Link l).operand >>= (λ w. through (map (link_value around) ls) (truth (not (is_zero w))) >>= K)) s)
      unfolding through ◌>>=◌ then_do pure joined truth_of
      both_left l ls is v K s = ap (λ o. ((joined o (value around (out-Link l).operand) v >>= through (map (link_value around) ls)) >>= K) s) is ∙ by (is_zero v)
        where
          by : (test : Bool) → (((if test then pure (truth false) else truth_of (value around (out-Link l).operand)) >>= through (map (link_value around) ls)) >>= K) s
              ≡ (if test then (through (map (link_value around) ls) (truth false) >>= K) s else (value around (out-Link l).operand >>= (λ w. through (map (link_value around) ls) (truth (not (is_zero w))) >>= K)) s)
          by true = refl
          by false = ap (λ e. e s) (in_turn (truth_of (value around (out-Link l).operand)) (through (map (link_value around) ls)) K ∙ in_turn (value around (out-Link l).operand) (λ w. pure (truth (not (is_zero w)))) (λ u. through (map (link_value around) ls) u >>= K))

      pub both_run : (a b c : ℕ) (l : Link) (ls : List Link) (left right of : TypeName) → (out-Link l).operator ≡ operators.And → Has p a (code.JumpZero (suc (suc (suc b)))) → Evaluates p depth A F frames bound layout held (value around (out-Link l).operand) right (suc a) b →
          Has p b code.Not → Has p (suc b) code.Not → Has p (suc (suc b)) (code.Jump (suc (suc (suc (suc b))))) → Has p (suc (suc (suc b))) (code.PushInt (pos 0)) →
          LinksRun ls types.Int of (suc (suc (suc (suc b)))) c → LinksRun (l ∷ ls) left of a c
      both_run a b c l ls left right of is h ih not1 not2 on false_ rest v fit K stack k s t r =
          both (both_left l ls is v K s) (jumps_zero p depth goes frames a (suc (suc (suc b))) h (number v) stack t) (by (is_zero v))
        where
          by : (test : Bool) → Same F (if test then (through (map (link_value around) ls) (truth false) >>= K) s else (value around (out-Link l).operand >>= (λ w. through (map (link_value around) ls) (truth (not (is_zero w))) >>= K)) s)
              (if test then machine p depth frames (suc (suc (suc b))) stack t else machine p depth frames (suc a) stack t)
          by true = right_is (pushes_int p depth goes frames (suc (suc (suc b))) (pos 0) false_ stack t) (rest (truth false) (truth_in false) K stack k s t r)
          by false = ih (λ w. through (map (link_value around) ls) (truth (not (is_zero w))) >>= K) stack (λ w s' t' fit' r'.
              right_is (inverts p depth goes frames b not1 (number w) stack t' ∙ (inverts p depth goes frames (suc b) not2 _ stack t' ∙ (jumps p depth goes frames (suc (suc b)) (suc (suc (suc (suc b)))) on _ t' ∙ ap (λ n. machine p depth frames (suc (suc (suc (suc b)))) (n ∷ stack) t') (twice w))))
              (rest (truth (not (is_zero w))) (truth_in (not (is_zero w))) K stack k s' t' r')) s t r

      pub either_left : (l : Link) (ls : List Link) → (out-Link l).operator ≡ operators.Or → (v : Value) (K : Value → doing.Does Variables A) (s : State Variables) → (through (map (link_value around) (l ∷ ls)) v >>= K) s
          ≡ (if is_zero v then (value around (out-Link l).operand >>= (λ w. through (map (link_value around) ls) (truth (not (is_zero w))) >>= K)) s else (through (map (link_value around) ls) (truth true) >>= K) s)
      unfolding through ◌>>=◌ then_do pure joined truth_of
      either_left l ls is v K s = ap (λ o. ((joined o (value around (out-Link l).operand) v >>= through (map (link_value around) ls)) >>= K) s) is ∙ by (is_zero v)
        where
          by : (test : Bool) → (((if test then truth_of (value around (out-Link l).operand) else pure (truth true)) >>= through (map (link_value around) ls)) >>= K) s
              ≡ (if test then (value around (out-Link l).operand >>= (λ w. through (map (link_value around) ls) (truth (not (is_zero w))) >>= K)) s else (through (map (link_value around) ls) (truth true) >>= K) s)
          by true = ap (λ e. e s) (in_turn (truth_of (value around (out-Link l).operand)) (through (map (link_value around) ls)) K ∙ in_turn (value around (out-Link l).operand) (λ w. pure (truth (not (is_zero w)))) (λ u. through (map (link_value around) ls) u >>= K))
          by false = refl

      pub either_run : (a b c : ℕ) (l : Link) (ls : List Link) (left right of : TypeName) → (out-Link l).operator ≡ operators.Or → Has p a (code.JumpZero (suc (suc (suc a)))) → Has p (suc a) (code.PushInt (pos 1)) → Has p (suc (suc a)) (code.Jump (suc (suc b))) →
          Evaluates p depth A F frames bound layout held (value around (out-Link l).operand) right (suc (suc (suc a))) b → Has p b code.Not → Has p (suc b) code.Not → LinksRun ls types.Int of (suc (suc b)) c → LinksRun (l ∷ ls) left of a c
      either_run a b c l ls left right of is h one on ih not1 not2 rest v fit K stack k s t r =
          both (either_left l ls is v K s) (jumps_zero p depth goes frames a (suc (suc (suc a))) h (number v) stack t) (by (is_zero v))
        where
          by : (test : Bool) → Same F (if test then (value around (out-Link l).operand >>= (λ w. through (map (link_value around) ls) (truth (not (is_zero w))) >>= K)) s else (through (map (link_value around) ls) (truth true) >>= K) s)
              (if test then machine p depth frames (suc (suc (suc a))) stack t else machine p depth frames (suc a) stack t)
          by true = ih (λ w. through (map (link_value around) ls) (truth (not (is_zero w))) >>= K) stack (λ w s' t' fit' r'.
              right_is (inverts p depth goes frames b not1 (number w) stack t' ∙ (inverts p depth goes frames (suc b) not2 _ stack t' ∙ ap (λ n. machine p depth frames (suc (suc b)) (n ∷ stack) t') (twice w)))
              (rest (truth (not (is_zero w))) (truth_in (not (is_zero w))) K stack k s' t' r')) s t r
          by false = right_is (pushes_int p depth goes frames (suc a) (pos 1) one stack t ∙ jumps p depth goes frames (suc (suc a)) (suc (suc b)) on (pos 1 ∷ stack) t) (rest (truth true) (truth_in true) K stack k s t r)

      pub chain_runs : (a b c : ℕ) (x : Chain) (first of : TypeName) → Evaluates p depth A F frames bound layout held (value around (out-Chain x).first) first a b → LinksRun (out-Chain x).others first of b c → Evaluates p depth A F frames bound layout held (value around (exprs.Chain x)) of a c
      chain_runs a b c x first of ih links K stack k s t r =
          let more = through (map (link_value around) (out-Chain x).others) in
          left_is (ap (λ d. (d >>= K) s) (of_chain around x) ∙ ap (λ d. d s) (in_turn (value around (out-Chain x).first) more K))
          (ih (λ v. more v >>= K) stack (λ v s' t' fit r'. links v fit K stack k s' t' r') s t r)

      -- ---- unary minus

      negates : (t : TypeName) (stack : Stack) → effect p depth (by_type t code.NegInt code.NegLong) stack ≡ on_one (λ x. fitting (bits t) (neg_ℤ x)) stack
      unfolding effect
      negates types.Int stack = refl
      negates types.Long stack = refl
      negates types.Char stack = refl

      one_on : (b : ℕ) (t : TypeName) → Has p b (by_type t code.NegInt code.NegLong) → (x : ℤ) (stack : Stack) (t' : State Cells) → machine p depth frames b (x ∷ stack) t' ≡ then_do ((checked (fitting (bits t) (neg_ℤ x)) >>= (λ n. pure (On (n ∷ stack)))) t') (follows p depth frames (suc b))
      unfolding on_one
      one_on b t h x stack t' = at p depth goes frames b _ h (x ∷ stack) t' ∙ ap (λ d. then_do (d t') (follows p depth frames (suc b))) (negates t (x ∷ stack))

      pub negating_runs : (a b : ℕ) (x : Prefix) (of : TypeName) → Evaluates p depth A F frames bound layout held (value around (out-Prefix x).operand) of a b → Has p b (by_type (common of of) code.NegInt code.NegLong) →
          Evaluates p depth A F frames bound layout held (value around (exprs.Negate x)) (common of of) a (suc b)
      negating_runs a b x of ih h K stack k s t r =
          left_is (ap (λ d. (d >>= K) s) (of_negate around x) ∙ ap (λ d. d s) (in_turn (value around (out-Prefix x).operand) (λ v. checked (negated v)) K))
          (ih (λ v. checked (negated v) >>= K) stack (λ v s' t' fit r'. right_is (one_on b (common of of) h (number v) stack t')
          (agreed (common of of) (negated v) (fitting (bits (common of of)) (neg_ℤ (number v))) (arithmetic_agrees of of v v (neg_ℤ (number v)) fit fit) K (suc b) stack k s' t' r')) s t r)
