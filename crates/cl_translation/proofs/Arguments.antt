-- The code of arguments, and of a call behind them.
use Rattle.std.proofs.Common.{◌≡◌, ℕ, suc, List, [], ◌∷◌, ◌++◌, Some, refl, sym, ap, subst, ◌∙◌, map, append_assoc, append-nil}
use Rattle.std.specs.Prelude.{ℤ, Ok, Err}
use Rattle.cl_value.specs.declared.value.Value.{Value}
use Rattle.cl_value.specs.declared.process.Trap.{Trap}
use Rattle.cl_ast.specs.declared.tree.TypeName.{TypeName}
use Rattle.cl_ast.specs.declared.tree.TypeName.TheVariants as types
use Rattle.cl_ast.specs.declared.tree.Expr.{Expr}
use Rattle.cl_ast.specs.declared.tree.Call.{Call, out-Call}
use Rattle.cl_ast.specs.declared.statement.Function.{Function}
use Rattle.cl_ast.specs.declared.statement.Parameter.{Parameter}
use Rattle.cl_model.specs.Doing.{Steps, Stops, State, then_do, ◌>>=◌, ◌>>◌, pure, checked, Checked, trap, each_onto}
use Rattle.cl_model.specs.Doing as doing
use Rattle.cl_model.specs.Numbers.{number, and_then}
use Rattle.cl_meaning.specs.Variables.{Variables}
use Rattle.cl_meaning.specs.Expressions.{Surroundings, value, call}
use Rattle.cl_meaning.specs.Calls.{result_type}
use Rattle.cl_meaning.proofs.Equations.{call_is}
use Rattle.cl_code.specs.Plain.{PlainProgram}
use Rattle.cl_code.specs.Machine.{Cells, Stack, Frame, Ending, pushed, machine}
use Rattle.cl_code.specs.declared.instr.Instr.TheVariants as code
use Rattle.cl_translation.proofs.Alike.{Same}
use Rattle.cl_translation.specs.Layout.{Layout}
use Rattle.cl_translation.specs.Stands.{IsIn, Stands}
use Rattle.cl_translation.specs.Chosen.{conversion}
use Rattle.cl_translation.proofs.Means.{Goes, End, GoesOn, Evaluates, converted_number, converted_all, AreFor}
use Rattle.cl_translation.proofs.Notation.{in_turn, both, left_is, right_is}
use Rattle.cl_translation.proofs.Conversions.{passes, stays}
use Rattle.cl_translation.proofs.Bare.{Passing}

module _ (p : PlainProgram) (depth : ℕ) (A : Type 0) (F : End A) (goes : Goes p depth) (frames : List Frame) (bound : ℕ) (layout : Layout) (held : List ℤ) (around : Surroundings) where
  -- behind arguments: the numbers of the parameters are on the stack, unless one doesn't fit
  abbrev pub GoesBehind : List Parameter → ℕ → Stack → List Value → (List Value → doing.Does Variables A) → Type 0
  GoesBehind ys b stack done K = (vs : List Value) (s : State Variables) (t : State Cells) → AreFor ys vs → Stands bound layout held s t → Same F (K (done ++ vs) s) ((checked (converted_all ys vs) >>= (λ ns. machine p depth frames b (pushed ns stack))) t)

  abbrev pub ArgumentsRun : List Expr → List Parameter → ℕ → ℕ → Type 0
  ArgumentsRun xs ys a b = (K : List Value → doing.Does Variables A) (done : List Value) (stack : Stack) → GoesBehind ys b stack done K → (s : State Variables) (t : State Cells) → Stands bound layout held s t → Same F ((each_onto done (map (value around) xs) >>= K) s) (machine p depth frames a stack t)

  pub no_argument_runs : (a : ℕ) → ArgumentsRun [] [] a a
  unfolding each_onto ◌>>=◌ then_do pure checked
  no_argument_runs a K done stack k s t r = left_is (ap (λ l. K l s) (sym (append-nil done))) (k [] s t tt r)

  -- a number that is converted, and the rest
  pub first_converted : (of : TypeName) (y : Parameter) (ys : List Parameter) (v : Value) (vs : List Value) (n : ℤ) (G : List ℤ → doing.Does Cells Ending) (t : State Cells) → converted_number y.type_name (number v) ≡ Ok n → (checked (converted_all (y ∷ ys) (v ∷ vs)) >>= G) t ≡ (checked (converted_all ys vs) >>= (λ ns. G (n ∷ ns))) t
  unfolding ◌>>=◌ then_do checked pure trap
  first_converted of y ys v vs n G t is = ap (λ c. then_do (checked (and_then c (λ m. and_then (converted_all ys vs) (λ ns. Ok (m ∷ ns)))) t) G) is ∙ by (converted_all ys vs)
    where
      by : (c : Checked (List ℤ)) → then_do (checked (and_then c (λ ns. Ok (n ∷ ns))) t) G ≡ then_do (checked c t) (λ ns. G (n ∷ ns))
      by (Ok ns) = refl
      by (Err e) = refl

  -- a conversion that traps is to `int`
  traps_narrow : (from of : TypeName) (v : Value) (e : Trap) → IsIn from v → converted_number of (number v) ≡ Err e → conversion from of ≡ Some code.Narrow
  traps_narrow types.Long types.Int v e fit is = refl
  traps_narrow types.Int types.Int v e fit is = absurd (let h = sym (stays types.Int types.Int v fit refl) ∙ is in cc)
  traps_narrow types.Char types.Int v e fit is = absurd (let h = sym (stays types.Char types.Int v fit refl) ∙ is in cc)
  traps_narrow from types.Long v e fit is = absurd cc
  traps_narrow from types.Char v e fit is = absurd cc

  pub argument_runs : (a b c d : ℕ) (x : Expr) (xs : List Expr) (y : Parameter) (ys : List Parameter) (of : TypeName) → Evaluates p depth A F frames bound layout held (value around x) of a b → Passing p b (conversion of y.type_name) c →
      (conversion of y.type_name ≡ Some code.Narrow → (ys ≡ []) × (xs ≡ [])) → ArgumentsRun xs ys c d → ArgumentsRun (x ∷ xs) (y ∷ ys) a d
  unfolding each_onto ◌>>=◌ then_do checked pure trap
  argument_runs a b c d x xs y ys of ih h last more K done stack k s t r =
      left_is (ap (λ e. e s) (in_turn (value around x) (λ v. each_onto (done ++ v ∷ []) (map (value around) xs)) K))
      (ih (λ v. each_onto (done ++ v ∷ []) (map (value around) xs) >>= K) stack (λ v s' t' fit r'.
      right_is (passes p depth A F goes frames b c of y.type_name v fit h stack t') (by v s' t' fit r' (converted_number y.type_name (number v)) refl)) s t r)
    where
      behind : (v : Value) → IsIn of v → (n : ℤ) → converted_number y.type_name (number v) ≡ Ok n → (vs : List Value) (s' : State Variables) (t' : State Cells) → AreFor ys vs → Stands bound layout held s' t' → Same F (K ((done ++ v ∷ []) ++ vs) s') ((checked (converted_all ys vs) >>= (λ ns. machine p depth frames d (pushed ns (n ∷ stack)))) t')
      behind v fit n is vs s' t' are r' = both (ap (λ l. K l s') (append_assoc done (v ∷ []) vs)) (sym (first_converted of y ys v vs n (λ ns. machine p depth frames d (pushed ns stack)) t' is)) (k (v ∷ vs) s' t' ((of, fit), are) r')

      -- it traps behind the last argument alone
      last_traps : (v : Value) (s' : State Variables) (t' : State Cells) → IsIn of v → Stands bound layout held s' t' → (e : Trap) → converted_number y.type_name (number v) ≡ Err e → (ys' : List Parameter) → ys ≡ ys' → ys' ≡ [] → (xs' : List Expr) → xs' ≡ [] →
          Same F (then_do (each_onto (done ++ v ∷ []) (map (value around) xs') s') K) (Stops e)
      last_traps v s' t' fit r' e is ys' same none xs' empty =
          left_is (ap (λ l. then_do (each_onto (done ++ v ∷ []) (map (value around) l) s') K) empty)
          (right_is (sym (ap (λ c. then_do (checked (and_then c (λ m. and_then (converted_all ys []) (λ ns. Ok (m ∷ ns)))) t') (λ ns. machine p depth frames d (pushed ns stack))) is))
          (k (v ∷ []) s' t' ((of, fit), subst (λ l. AreFor l []) (sym (same ∙ none)) tt) r'))

      by : (v : Value) (s' : State Variables) (t' : State Cells) → IsIn of v → Stands bound layout held s' t' → (n : Checked ℤ) → converted_number y.type_name (number v) ≡ n →
          Same F (then_do (each_onto (done ++ v ∷ []) (map (value around) xs) s') K) (then_do (checked n t') (λ m. machine p depth frames c (m ∷ stack)))
      by v s' t' fit r' (Ok m) ok = more K (done ++ v ∷ []) (m ∷ stack) (λ vs s'' t'' are r''. behind v fit m ok vs s'' t'' are r'') s' t' r'
      by v s' t' fit r' (Err e) is =
          let narrow = last (traps_narrow of y.type_name v e fit is) in
          last_traps v s' t' fit r' e is ys refl narrow.0 xs narrow.1

  -- ---- calls

  pub called_runs : (a b : ℕ) (x : Call) (f : Function) → ArgumentsRun (out-Call x).arguments f.parameters a b →
      ((vs : List Value) → AreFor f.parameters vs → (K : Value → doing.Does Variables A) (stack : Stack) → GoesOn p depth A F frames bound layout held (result_type f) (suc b) stack K → (s : State Variables) (t : State Cells) → Stands bound layout held s t →
      Same F ((around.call (out-Call x).name.bytes vs >>= K) s) ((checked (converted_all f.parameters vs) >>= (λ ns. machine p depth frames b (pushed ns stack))) t)) →
      Evaluates p depth A F frames bound layout held (call around x) (result_type f) a (suc b)
  called_runs a b x f arguments calls K stack k s t r =
      left_is (ap (λ d. (d >>= K) s) (call_is around x) ∙ ap (λ d. d s) (in_turn (each_onto [] (map (value around) (out-Call x).arguments)) (around.call (out-Call x).name.bytes) K))
      (arguments (λ vs. around.call (out-Call x).name.bytes vs >>= K) [] stack (λ vs s' t' are r'. calls vs are K stack k s' t' r') s t r)
