-- The code of expressions without parts, and of places.
use Rattle.std.proofs.Common.{◌≡◌, ℕ, zero, suc, ◌+◌, ◌<◌, Bool, true, false, List, [], ◌∷◌, ◌++◌, length, Some, None, refl, sym, ap, subst, ◌∙◌, arith}
use Rattle.std.specs.Prelude.{ℤ, slice_get, unwrap_or, option_map}
use Rattle.std.specs.List.{AllByRecursion}
use Rattle.cl_value.specs.declared.value.Value.{Value}
use Rattle.cl_ast.specs.declared.tree.TypeName.{TypeName}
use Rattle.cl_ast.specs.declared.tree.TypeName.TheVariants as types
use Rattle.cl_ast.specs.declared.tree.Literal.{Literal}
use Rattle.cl_ast.specs.declared.tree.Expr.{Expr}
use Rattle.cl_ast.specs.declared.tree.Expr.TheVariants as exprs
use Rattle.cl_ast.specs.declared.tree.Place.{Place, out-Place}
use Rattle.cl_ast.specs.declared.tree.Prefix.{Prefix, out-Prefix}
use Rattle.cl_model.specs.Doing.{Steps, Gives, Stops, State, then_do, ◌>>=◌, ◌>>◌, pure, checked, Checked, variables, trap}
use Rattle.cl_model.specs.Doing as doing
use Rattle.cl_model.specs.Numbers.{number, truth, is_zero, negated}
use Rattle.cl_meaning.specs.Operators.{literal, zero_of}
use Rattle.cl_meaning.specs.Outer.{value_type}
use Rattle.cl_meaning.specs.Variables.{Variable, Variables, found, element}
use Rattle.cl_meaning.specs.Operations.{place, value_at, variable}
use Rattle.cl_meaning.specs.Expressions.{Surroundings, value}
use Rattle.cl_meaning.proofs.Equations.{of_literal, of_place, place_at, of_not, of_negate}
use Rattle.cl_code.specs.Plain.{PlainProgram}
use Rattle.cl_code.specs.Arithmetic as arithmetic
use Rattle.cl_code.specs.Machine.{Cells, Stack, Where, Local, Global, cells_at, Frame, effect, follow, machine, loads, loaded}
use Rattle.cl_code.specs.Following.{follows}
use Rattle.cl_code.specs.declared.instr.Instr.TheVariants as code
use Rattle.cl_translation.specs.Layout as layouts
use Rattle.cl_translation.specs.Layout.{Layout, Spot, Constant, spot}
use Rattle.cl_translation.specs.Stands.{IsIn, numbers, Stands}
use Rattle.cl_translation.specs.Code.{IsConstant, Spelled, Naming, Minus}
use Rattle.cl_translation.specs.Chosen.{push, load}
use Rattle.cl_translation.proofs.Means.{Goes, End, Evaluates}
use Rattle.cl_translation.proofs.Notation.{in_turn, both, left_is, right_is}
use Rattle.cl_translation.proofs.Lists.{get_behind, get_front, some_at, map_get}
use Rattle.cl_translation.proofs.Spots.{AtSpot, InCellsAt}
use Rattle.cl_translation.proofs.States.{found_at}
use Rattle.cl_translation.proofs.Steps.{at, pushes, inverts}
use Rattle.cl_translation.specs.Lying.{Has}

-- ---- an element lies in its cell

all_at : (P : Value → Type 0) (vs : List Value) (i : ℕ) (v : Value) → AllByRecursion P vs → slice_get vs i ≡ Some v → P v
all_at P [] i v h is = absurd cc
all_at P (w ∷ vs) zero v h is = let e : w ≡ v = cc in subst P e h.0
all_at P (w ∷ vs) (suc i) v h is = all_at P vs i v h.1 is

pub record ElementLies (whole : List ℤ) (place i : ℕ) (of : TypeName) (v : Variable) : Type 0 where
  pub typed : IsIn of (element i v)
  pub there : slice_get whole place ≡ Some (number (element i v))

pub element_lies : (whole : List ℤ) (base size i : ℕ) (of : TypeName) (v : Variable) → InCellsAt whole base size of v → i < size → ElementLies whole (base + i) i of v
element_lies whole base size i of v h lt =
    let found = some_at v.values i (omega (arith, h.count, lt)) in
    let is : element i v ≡ found.0 = ap (λ o. unwrap_or o (zero_of v.of)) found.1 in
    let low : i < length (numbers v.values) = omega (arith, lt, h.count, Rattle.cl_translation.proofs.Lists.map_length number v.values) in
    record {
      typed = subst (λ x. IsIn of x) (sym is) (all_at (IsIn of) v.values i found.0 h.typed found.1);
      there = ap (λ l. slice_get l (base + i)) h.lies.is
          ∙ (get_behind h.lies.before (numbers v.values ++ h.lies.after) (base + i) i (omega (arith, h.lies.at))
          ∙ (get_front (numbers v.values) h.lies.after i low
          ∙ (map_get number v.values i found.0 found.1 ∙ ap (λ x. Some (number x)) (sym is))));
    }

pub truth_in : (test : Bool) → IsIn types.Int (truth test)
truth_in true = record { type = refl; within = refl }
truth_in false = record { type = refl; within = refl }

pub truth_number : (test : Bool) → number (truth test) ≡ arithmetic.truth test
truth_number true = refl
truth_number false = refl

module _ (p : PlainProgram) (depth : ℕ) (A : Type 0) (F : End A) (goes : Goes p depth) (frames : List Frame) (bound : ℕ) (layout : Layout) (held : List ℤ) (around : Surroundings) where
  pub literal_runs : (a : ℕ) (x : Literal) → IsIn (value_type (literal x.value)) (literal x.value) → Has p a (push (literal x.value)) → Evaluates p depth A F frames bound layout held (value around (exprs.Literal x)) (value_type (literal x.value)) a (suc a)
  unfolding ◌>>=◌ pure then_do
  literal_runs a x fit h K stack k s t r = both (ap (λ d. (d >>= K) s) (of_literal around x)) (pushes p depth goes frames a (literal x.value) h stack t) (k (literal x.value) s t fit r)

  -- ---- places

  pub loads_cell : (a : ℕ) (at' : Where) (k : ℕ) (n : ℤ) → Has p a (load at' k) → (stack : Stack) (t : State Cells) → slice_get (cells_at at' t.variables) k ≡ Some n → machine p depth frames a stack t ≡ machine p depth frames (suc a) (n ∷ stack) t
  unfolding effect loads ◌>>=◌ then_do variables pure follow
  loads_cell a Local k n h stack t is = at p depth goes frames a (code.LoadLocal k) h stack t ∙ ap (λ o. follows p depth frames (suc a) (loaded o stack) t) is
  loads_cell a Global k n h stack t is = at p depth goes frames a (code.LoadGlobal k) h stack t ∙ ap (λ o. follows p depth frames (suc a) (loaded o stack) t) is

  -- a variable without an index
  pub unindexed : (x : Place) → (out-Place x).index ≡ None → (K : Value → doing.Does Variables A) (s : State Variables) → (value around (exprs.Place x) >>= K) s ≡ K (element 0 (found (out-Place x).name.bytes s.variables)) s
  unfolding ◌>>=◌ pure then_do place value_at variable variables
  unindexed x none K s = ap (λ d. (d >>= K) s) (of_place around x ∙ (ap (λ d. d >>= value_at (out-Place x).name.bytes) (place_at around x) ∙ ap (λ o. place (out-Place x).name.bytes (option_map (value around) o) >>= value_at (out-Place x).name.bytes) none))

  pub variable_runs : (a : ℕ) (x : Place) (at' : Where) (base size : ℕ) (of : TypeName) → (out-Place x).index ≡ None → spot (out-Place x).name.bytes layout ≡ layouts.Cells at' base (suc size) of → Has p a (load at' base) →
      Evaluates p depth A F frames bound layout held (value around (exprs.Place x)) of a (suc a)
  variable_runs a x at' base size of none is h K stack k s t r =
      let v = found (out-Place x).name.bytes s.variables in
      let there = subst (λ o. AtSpot (λ w. cells_at w t.variables) o v) is (found_at bound layout held s t r (out-Place x).name.bytes) in
      let lies = element_lies (cells_at at' t.variables) base (suc size) 0 of v there (omega arith) in
      let same : base + 0 ≡ base = omega arith in
      both (unindexed x none K s) (loads_cell a at' base (number (element 0 v)) h stack t (sym (ap (λ m. slice_get (cells_at at' t.variables) m) same) ∙ lies.there)) (k (element 0 v) s t lies.typed r)

  pub constant_runs : (a : ℕ) (x : Place) (of : TypeName) (c : Value) → (out-Place x).index ≡ None → spot (out-Place x).name.bytes layout ≡ Constant of c → Has p a (push c) →
      Evaluates p depth A F frames bound layout held (value around (exprs.Place x)) of a (suc a)
  constant_runs a x of c none is h K stack k s t r =
      let v = found (out-Place x).name.bytes s.variables in
      let there = subst (λ o. AtSpot (λ w. cells_at w t.variables) o v) is (found_at bound layout held s t r (out-Place x).name.bytes) in
      let same : element 0 v ≡ c = ap (λ vs. unwrap_or (slice_get vs 0) (zero_of v.of)) there.1 in
      both (unindexed x none K s ∙ ap (λ w. K w s) same) (pushes p depth goes frames a c h stack t) (k c s t there.2 r)

  pub inverting_runs : (a b : ℕ) (x : Prefix) (of : TypeName) → Evaluates p depth A F frames bound layout held (value around (out-Prefix x).operand) of a b → Has p b code.Not →
      Evaluates p depth A F frames bound layout held (value around (exprs.Not x)) types.Int a (suc b)
  unfolding ◌>>=◌ pure then_do
  inverting_runs a b x of ih h K stack k s t r =
      left_is (ap (λ d. (d >>= K) s) (of_not around x) ∙ ap (λ d. d s) (in_turn (value around (out-Prefix x).operand) (λ v. pure (truth (is_zero v))) K))
      (ih (λ v. pure (truth (is_zero v)) >>= K) stack (λ v s' t' fit r'. right_is (inverts p depth goes frames b h (number v) stack t' ∙ ap (λ n. machine p depth frames (suc b) (n ∷ stack) t') (sym (truth_number (is_zero v)))) (k (truth (is_zero v)) s' t' (truth_in (is_zero v)) r')) s t r)

  -- ---- constants

  pub constant_is : {x : Expr} {c : Value} → IsConstant layout x c → (K : Value → doing.Does Variables A) (s : State Variables) (t : State Cells) → Stands bound layout held s t → (value around x >>= K) s ≡ K c s
  unfolding ◌>>=◌ pure then_do checked
  constant_is (Spelled x) K s t r = ap (λ d. (d >>= K) s) (of_literal around x)
  constant_is (Naming x of c none is) K s t r =
      let v = found (out-Place x).name.bytes s.variables in
      let there = subst (λ o. AtSpot (λ w. cells_at w t.variables) o v) is (found_at bound layout held s t r (out-Place x).name.bytes) in
      let same : element 0 v ≡ c = ap (λ vs. unwrap_or (slice_get vs 0) (zero_of v.of)) there.1 in
      unindexed x none K s ∙ ap (λ w. K w s) same
  constant_is (Minus x c d inner is) K s t r =
      ap (λ e. (e >>= K) s) (of_negate around x) ∙ (ap (λ e. e s) (in_turn (value around (out-Prefix x).operand) (λ v. checked (negated v)) K)
      ∙ (constant_is inner (λ v. checked (negated v) >>= K) s t r ∙ ap (λ e. then_do (checked e s) K) is))
