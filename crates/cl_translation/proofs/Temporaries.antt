-- The code of arguments that go through temporaries.
use Rattle.std.proofs.Common.{◌≡◌, ℕ, suc, ◌+◌, List, [], ◌∷◌, ◌++◌, length, Some, refl, sym, ap, ◌∙◌, arith, append_assoc, append-nil}
use Rattle.std.specs.Prelude.{ℤ, slice_get, Ok, Err}
use Rattle.cl_value.specs.declared.value.Value.{Value}
use Rattle.cl_ast.specs.declared.tree.TypeName.{TypeName}
use Rattle.cl_ast.specs.declared.tree.Expr.{Expr}
use Rattle.cl_ast.specs.declared.statement.Parameter.{Parameter}
use Rattle.cl_model.specs.Doing.{State, then_do, ◌>>=◌, pure, checked, Checked, trap}
use Rattle.cl_model.specs.Numbers.{number, and_then}
use Rattle.cl_meaning.specs.Variables.{Variables}
use Rattle.cl_meaning.specs.Expressions.{Surroundings}
use Rattle.cl_code.specs.Plain.{PlainProgram}
use Rattle.cl_code.specs.Machine.{Cells, Stack, Frame, pushed, machine}
use Rattle.cl_translation.specs.Layout.{Layout, free_cell}
use Rattle.cl_translation.specs.Stands.{numbers, Stands}
use Rattle.cl_translation.specs.Lying.{Loads, NothingLoaded, Loaded}
use Rattle.cl_translation.specs.Chosen.{conversion}
use Rattle.cl_translation.proofs.Means.{Goes, End, converted_number, converted_all, AreFor}
use Rattle.cl_translation.proofs.Notation.{right_is}
use Rattle.cl_translation.proofs.Bare.{Keeping, passing}
use Rattle.cl_translation.proofs.Lists.{get_behind, map_length}
use Rattle.cl_translation.proofs.Scopes as scopes
use Rattle.cl_translation.proofs.Conversions.{passes}
use Rattle.cl_translation.proofs.Arguments.{ArgumentsRun, first_converted}
use Rattle.cl_translation.proofs.Operations.{backwards, pushed_is, length_backwards, keeps_run, loads_held}
use Rattle.cl_translation.proofs.Printing.{AreOf, ValuesRun}

-- values of the types from which they are converted are for the parameters
are_for : {p : PlainProgram} {cell n m a b : ℕ} {ofs : List TypeName} {ys : List Parameter} → Loads p cell n ofs ys m a b → (vs : List Value) → AreOf ofs vs → AreFor ys vs
are_for (NothingLoaded n a) [] are = tt
are_for (NothingLoaded n a) (v ∷ vs) are = absurd are
are_for (Loaded n m a b c of ofs y ys h pass rest) [] are = absurd are
are_for (Loaded n m a b c of ofs y ys h pass rest) (v ∷ vs) are = ((of, are.0), are_for rest vs are.1)

are_many : (ofs : List TypeName) (vs : List Value) → AreOf ofs vs → length vs ≡ length ofs
are_many [] [] are = refl
are_many [] (v ∷ vs) are = absurd are
are_many (of ∷ ofs) [] are = absurd are
are_many (of ∷ ofs) (v ∷ vs) are = ap suc (are_many ofs vs are.1)

module _ (p : PlainProgram) (depth : ℕ) (A : Type 0) (F : End A) (goes : Goes p depth) (frames : List Frame) (bound : ℕ) (layout : Layout) (around : Surroundings) where
  -- one number is converted, and then the others
  converted_on : (y : Parameter) (ys : List Parameter) (v : Value) (vs : List Value) (held : List ℤ) (of : TypeName) (b c : ℕ) (stack : Stack) (t : State Cells) →
      ((n : ℤ) → machine p depth frames b (n ∷ stack) t ≡ (checked (converted_all ys vs) >>= (λ ns. machine p depth frames c (pushed ns (n ∷ stack)))) t) →
      (checked (converted_number y.type_name (number v)) >>= (λ n. machine p depth frames b (n ∷ stack))) t ≡ (checked (converted_all (y ∷ ys) (v ∷ vs)) >>= (λ ns. machine p depth frames c (pushed ns stack))) t
  unfolding ◌>>=◌ then_do checked pure trap
  converted_on y ys v vs held of b c stack t go = by (converted_number y.type_name (number v)) refl
    where
      by : (x : Checked ℤ) → converted_number y.type_name (number v) ≡ x → then_do (checked x t) (λ n. machine p depth frames b (n ∷ stack)) ≡ then_do (checked (and_then (converted_number y.type_name (number v)) (λ m. and_then (converted_all ys vs) (λ ns. Ok (m ∷ ns)))) t) (λ ns. machine p depth frames c (pushed ns stack))
      by (Ok n) is = go n ∙ sym (first_converted p depth A F goes frames bound layout held around of y ys v vs n (λ ns. machine p depth frames c (pushed ns stack)) t is)
      by (Err e) is = sym (ap (λ x. then_do (checked (and_then x (λ m. and_then (converted_all ys vs) (λ ns. Ok (m ∷ ns)))) t) (λ ns. machine p depth frames c (pushed ns stack))) is)

  -- values that lie in temporaries behind others are loaded and converted in order
  loads_run : (whole before : List ℤ) (cell : ℕ) → cell ≡ free_cell layout + length before → {n m a b : ℕ} {ofs : List TypeName} {ys : List Parameter} → Loads p cell n ofs ys m a b → (vs : List Value) → AreOf ofs vs → (tail : List ℤ) → whole ≡ before ++ (backwards (numbers vs) ++ tail) →
      (stack : Stack) (s : State Variables) (t : State Cells) → Stands bound layout whole s t → machine p depth frames a stack t ≡ (checked (converted_all ys vs) >>= (λ ns. machine p depth frames b (pushed ns stack))) t
  unfolding ◌>>=◌ then_do checked pure
  loads_run whole before cell first (NothingLoaded n a) [] are tail is stack s t r = refl
  loads_run whole before cell first (NothingLoaded n a) (v ∷ vs) are tail is stack s t r = absurd are
  loads_run whole before cell first (Loaded n m a b c of ofs y ys h pass rest) [] are tail is stack s t r = absurd are
  loads_run whole before cell first (Loaded n m a b c of ofs y ys h pass rest) (v ∷ vs) are tail is stack s t r =
      loads_held p depth A F goes frames bound layout around a (cell + length ofs) (length before + length (numbers vs)) (number v) h.here (omega (arith, first, map_length number vs, are_many ofs vs are.1)) whole last stack s t r
      ∙ (passes p depth A F goes frames (suc a) b of y.type_name v are.0 (passing p (suc n) (suc a) (conversion of y.type_name) b pass) stack t
      ∙ converted_on y ys v vs before of b c stack t (λ k. loads_run whole before cell first rest vs are.1 (number v ∷ tail) (is ∙ ap (λ l. before ++ l) (append_assoc (backwards (numbers vs)) (number v ∷ []) tail)) (k ∷ stack) s t r))
    where
      last : slice_get whole (length before + length (numbers vs)) ≡ Some (number v)
      last = ap (λ l. slice_get l (length before + length (numbers vs))) (is ∙ ap (λ l. before ++ l) (append_assoc (backwards (numbers vs)) (number v ∷ []) tail))
          ∙ (get_behind before (backwards (numbers vs) ++ (number v ∷ tail)) (length before + length (numbers vs)) (length (numbers vs)) refl
          ∙ get_behind (backwards (numbers vs)) (number v ∷ tail) (length (numbers vs)) 0 (omega (arith, length_backwards (numbers vs))))

  pub through_runs : (held : List ℤ) (free : ℕ) → length held ≡ free → (n m a b c d : ℕ) (xs : List Expr) (ofs : List TypeName) (ys : List Parameter) → ValuesRun p depth A F goes frames bound layout held around xs ofs a b →
      Keeping p (free_cell layout + free) (length ofs) b c → Loads p (free_cell layout + free) n ofs ys m c d → ArgumentsRun p depth A F goes frames bound layout held around xs ys a d
  through_runs held free long n m a b c d xs ofs ys values keeps loads K done stack k s t r =
      values K done stack (λ vs s' t' count are r'.
      let told = backwards (numbers vs) in
      right_is (ap (λ l. machine p depth frames b l t') (pushed_is (numbers vs) stack))
      (keeps_run p depth A F goes frames bound layout around told held (free_cell layout + free) (length ofs) b c (omega (arith, long)) (omega (arith, length_backwards (numbers vs), map_length number vs, are_many ofs vs are)) keeps stack _ s' t' r' (λ t'' r''.
      right_is (loads_run (held ++ told) held (free_cell layout + free) (omega (arith, long)) loads vs are [] (ap (λ l. held ++ l) (sym (append-nil told))) stack s' t'' r'')
      (k vs s' t'' (are_for loads vs are) (scopes.lets_go bound layout held told s' t'' r''))))) s t r
