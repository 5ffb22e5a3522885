-- The code of the fields of an operation.
use Rattle.std.proofs.Common.{◌≡◌, ℕ, suc, ◌+◌, ◌<◌, List, [], ◌∷◌, ◌++◌, length, Some, None, refl, sym, ap, subst, ◌∙◌, arith, map, append_assoc, append-nil}
use Rattle.std.specs.Prelude.{ℤ, pos, slice_get, option_map}
use Rattle.cl_value.specs.declared.value.Value.{Value}
use Rattle.cl_value.specs.declared.value.Value.TheVariants as values
use Rattle.cl_ast.specs.declared.tree.TypeName.{TypeName}
use Rattle.cl_ast.specs.declared.tree.Expr.{Expr}
use Rattle.cl_ast.specs.declared.tree.Field.{Field}
use Rattle.cl_ast.specs.declared.tree.Field.TheVariants as fields
use Rattle.cl_ast.specs.declared.tree.Formal.{Formal, out-Formal}
use Rattle.cl_ast.specs.declared.tree.Place.{Place, out-Place}
use Rattle.cl_ast.specs.declared.tree.Text.{Text}
use Rattle.cl_listing.specs.Names.{Name}
use Rattle.cl_model.specs.Doing.{Steps, State, then_do, ◌>>=◌, ◌>>◌, pure, checked, variables, each_onto}
use Rattle.cl_model.specs.Doing as doing
use Rattle.cl_model.specs.Numbers.{number}
use Rattle.cl_meaning.specs.Operators.{field_type}
use Rattle.cl_meaning.specs.Variables.{Variables, found}
use Rattle.cl_meaning.specs.Operations.{Does, Aim, Holds, Fills, place, formal, variable}
use Rattle.cl_meaning.specs.Expressions.{Surroundings, value, place_meant}
use Rattle.cl_meaning.specs.Parts.{field_aim}
use Rattle.cl_meaning.proofs.Equations.{place_at, aim_of_text, aim_of_plain, aim_of_formal}
use Rattle.cl_sig.specs.declared.signature.Mark.{Mark}
use Rattle.cl_sig.specs.declared.signature.Mark.TheVariants as marks
use Rattle.cl_code.specs.Plain.{PlainProgram}
use Rattle.cl_code.specs.Machine.{Cells, Stack, Where, Local, cells_at, Frame, On, pushed, effect, follow, machine, checks, index_of}
use Rattle.cl_code.specs.Following.{follows}
use Rattle.cl_code.specs.declared.instr.Instr.TheVariants as code
use Rattle.cl_translation.proofs.Alike.{Same}
use Rattle.cl_translation.specs.Layout as layouts
use Rattle.cl_translation.specs.Layout.{Layout, Spot, spot, free_cell}
use Rattle.cl_translation.specs.Stands.{IsIn, Stands}
use Rattle.cl_translation.specs.Code.{IsConstant}
use Rattle.cl_translation.proofs.Values.{constant_is}
use Rattle.cl_translation.proofs.Means.{Goes, End, Evaluates}
use Rattle.cl_translation.proofs.Notation.{in_turn, both, left_is, right_is}
use Rattle.cl_translation.proofs.Lists.{get_behind}
use Rattle.cl_translation.proofs.Spots.{AtSpot}
use Rattle.cl_translation.proofs.States.{found_at}
use Rattle.cl_translation.proofs.Scopes as scopes
use Rattle.cl_translation.proofs.Steps as steps
use Rattle.cl_translation.proofs.Elements.{placed, at_index}
use Rattle.cl_translation.proofs.Conversions.{stored}
use Rattle.cl_translation.specs.Lying.{Has, Target, ToCell, ToElement}

-- where the value of a formal goes, which was found to be this place
abbrev pub TargetIs : Layout → List ℤ → Target → TypeName → Name → ℕ → Type 0
TargetIs layout all (ToCell at base) of name k = (k ≡ 0) × ((size : ℕ) × (spot name layout ≡ layouts.Cells at base (suc size) of))
TargetIs layout all (ToElement at base size cell) of name k = (spot name layout ≡ layouts.Cells at base size of) × (k < size) × ((j : ℕ) × (cell ≡ free_cell layout + j) × (slice_get all j ≡ Some (pos k)))

-- fields that were read, by their marks; the numbers of actuals; and where formals' values go
pub data AimsAre (layout : Layout) (all : List ℤ) : List Mark → List Aim → List ℤ → List Target → Type 0 where
  NoAims : AimsAre layout all [] [] [] []
  Known : (c : Value) (ms : List Mark) (aims : List Aim) (ns : List ℤ) (ts : List Target) → AimsAre layout all ms aims ns ts → AimsAre layout all (marks.Constant c ∷ ms) (Holds c ∷ aims) ns ts
  Evaluated : (of : TypeName) (v : Value) (ms : List Mark) (aims : List Aim) (ns : List ℤ) (ts : List Target) → IsIn of v → AimsAre layout all ms aims ns ts → AimsAre layout all (marks.Actual (field_type of) ∷ ms) (Holds v ∷ aims) (number v ∷ ns) ts
  Receives : (of : TypeName) (name : Name) (k : ℕ) (target : Target) (ms : List Mark) (aims : List Aim) (ns : List ℤ) (ts : List Target) → TargetIs layout all target of name k → AimsAre layout all ms aims ns ts →
      AimsAre layout all (marks.Formal (field_type of) ∷ ms) (Fills of name k ∷ aims) ns (target ∷ ts)

module _ (p : PlainProgram) (depth : ℕ) (A : Type 0) (F : End A) (goes : Goes p depth) (frames : List Frame) (bound : ℕ) (layout : Layout) (around : Surroundings) where
  abbrev pub GoesBehindFields : List ℤ → List Mark → List Target → ℕ → ℕ → Stack → List Aim → (List Aim → doing.Does Variables A) → Type 0
  GoesBehindFields held ms ts after b stack done K = (all more : List ℤ) → all ≡ held ++ more → length all ≡ after → (aims : List Aim) (ns : List ℤ) → AimsAre layout all ms aims ns ts → (s : State Variables) (t : State Cells) → Stands bound layout all s t →
      Same F (K (done ++ aims) s) (machine p depth frames b (pushed ns stack) t)

  abbrev pub FieldsRun : List ℤ → List Field → List Mark → List Target → ℕ → ℕ → ℕ → Type 0
  FieldsRun held fs ms ts after a b = (K : List Aim → doing.Does Variables A) (done : List Aim) (stack : Stack) → GoesBehindFields held ms ts after b stack done K → (s : State Variables) (t : State Cells) → Stands bound layout held s t →
      Same F ((each_onto done (map (field_aim around) fs) >>= K) s) (machine p depth frames a stack t)

  pub no_field_runs : (held : List ℤ) (after a : ℕ) → length held ≡ after → FieldsRun held [] [] [] after a a
  unfolding each_onto ◌>>=◌ then_do pure
  no_field_runs held after a long K done stack k s t r = left_is (ap (λ l. K l s) (sym (append-nil done))) (k held [] (sym (append-nil held)) long [] [] NoAims s t r)

  -- a field that gives this, and the rest
  next : (aim : Aim) (done : List Aim) (rest : List (Does Aim)) (K : List Aim → doing.Does Variables A) (d : Does Aim) → d ≡ pure aim → (each_onto done (d ∷ rest) >>= K) ≡ each_onto (done ++ aim ∷ []) rest >>= K
  unfolding each_onto ◌>>=◌ then_do pure
  next aim done rest K d is = ap (λ e. (e >>= (λ x. each_onto (done ++ x ∷ []) rest)) >>= K) is

  pub text_field_runs : (held : List ℤ) (after a b : ℕ) (x : Text) (more : List Field) (ms : List Mark) (ts : List Target) → FieldsRun held more ms ts after a b → FieldsRun held (fields.Text x ∷ more) (marks.Constant (values.Text (around.text x.bytes)) ∷ ms) ts after a b
  text_field_runs held after a b x more ms ts rest K done stack k s t r =
      left_is (ap (λ e. e s) (next (Holds (values.Text (around.text x.bytes))) done (map (field_aim around) more) K (field_aim around (fields.Text x)) (aim_of_text around x)))
      (rest K (done ++ Holds (values.Text (around.text x.bytes)) ∷ []) stack (λ all extra same long aims ns are s' t' r'.
      left_is (ap (λ l. K l s') (append_assoc done (Holds (values.Text (around.text x.bytes)) ∷ []) aims)) (k all extra same long (Holds (values.Text (around.text x.bytes)) ∷ aims) ns (Known (values.Text (around.text x.bytes)) ms aims ns ts are) s' t' r')) s t r)

  pub constant_field_runs : (held : List ℤ) (after a b : ℕ) (x : Expr) (c : Value) (more : List Field) (ms : List Mark) (ts : List Target) → IsConstant layout x c → FieldsRun held more ms ts after a b → FieldsRun held (fields.Plain x ∷ more) (marks.Constant c ∷ ms) ts after a b
  unfolding each_onto ◌>>=◌ then_do pure
  constant_field_runs held after a b x c more ms ts is rest K done stack k s t r =
      left_is (ap (λ d. ((d >>= (λ aim. each_onto (done ++ aim ∷ []) (map (field_aim around) more))) >>= K) s) (aim_of_plain around x)
      ∙ (ap (λ d. d s) (in_turn (value around x >>= (λ v. pure (Holds v))) (λ aim. each_onto (done ++ aim ∷ []) (map (field_aim around) more)) K)
      ∙ (ap (λ d. d s) (in_turn (value around x) (λ v. pure (Holds v)) (λ aim. each_onto (done ++ aim ∷ []) (map (field_aim around) more) >>= K))
      ∙ constant_is p depth A F goes frames bound layout held around is (λ v. each_onto (done ++ Holds v ∷ []) (map (field_aim around) more) >>= K) s t r)))
      (rest K (done ++ Holds c ∷ []) stack (λ all extra same long aims ns are s' t' r'.
      left_is (ap (λ l. K l s') (append_assoc done (Holds c ∷ []) aims)) (k all extra same long (Holds c ∷ aims) ns (Known c ms aims ns ts are) s' t' r')) s t r)

  pub actual_field_runs : (held : List ℤ) (after a b c : ℕ) (x : Expr) (of : TypeName) (more : List Field) (ms : List Mark) (ts : List Target) → Evaluates p depth A F frames bound layout held (value around x) of a b → FieldsRun held more ms ts after b c →
      FieldsRun held (fields.Plain x ∷ more) (marks.Actual (field_type of) ∷ ms) ts after a c
  unfolding each_onto ◌>>=◌ then_do pure
  actual_field_runs held after a b c x of more ms ts ih rest K done stack k s t r =
      left_is (ap (λ d. ((d >>= (λ aim. each_onto (done ++ aim ∷ []) (map (field_aim around) more))) >>= K) s) (aim_of_plain around x)
      ∙ (ap (λ d. d s) (in_turn (value around x >>= (λ v. pure (Holds v))) (λ aim. each_onto (done ++ aim ∷ []) (map (field_aim around) more)) K)
      ∙ ap (λ d. d s) (in_turn (value around x) (λ v. pure (Holds v)) (λ aim. each_onto (done ++ aim ∷ []) (map (field_aim around) more) >>= K))))
      (ih (λ v. each_onto (done ++ Holds v ∷ []) (map (field_aim around) more) >>= K) stack (λ v s' t' fit r'.
      rest K (done ++ Holds v ∷ []) (number v ∷ stack) (λ all extra same long aims ns are s'' t'' r''.
      left_is (ap (λ l. K l s'') (append_assoc done (Holds v ∷ []) aims)) (k all extra same long (Holds v ∷ aims) (number v ∷ ns) (Evaluated of v ms aims ns ts fit are) s'' t'' r'')) s' t' r') s t r)

  -- behind the place of a formal
  found_is : (name : Name) (k : ℕ) (of : TypeName) (done : List Aim) (rest : List (Does Aim)) (K : List Aim → doing.Does Variables A) (s : State Variables) → (found name s.variables).of ≡ of →
      ((variable name >>= (λ v. pure (Fills v.of name k))) >>= (λ aim. each_onto (done ++ aim ∷ []) rest >>= K)) s ≡ (each_onto (done ++ Fills of name k ∷ []) rest >>= K) s
  unfolding ◌>>=◌ then_do pure variable variables
  found_is name k of done rest K s is = ap (λ u. then_do (each_onto (done ++ Fills u name k ∷ []) rest s) K) is

  -- a formal, by its place
  formal_opens : (x : Formal) (done : List Aim) (rest : List (Does Aim)) (K : List Aim → doing.Does Variables A) →
      each_onto done (field_aim around (fields.Formal x) ∷ rest) >>= K ≡ (place_meant around (out-Formal x).target).at >>= (λ m. (variable (out-Place (out-Formal x).target).name.bytes >>= (λ v. pure (Fills v.of (out-Place (out-Formal x).target).name.bytes m))) >>= (λ aim. each_onto (done ++ aim ∷ []) rest >>= K))
  unfolding each_onto formal
  formal_opens x done rest K =
      let name = (out-Place (out-Formal x).target).name.bytes in
      ap (λ d. (d >>= (λ aim. each_onto (done ++ aim ∷ []) rest)) >>= K) (aim_of_formal around x)
      ∙ (in_turn (formal name (place_meant around (out-Formal x).target).at) (λ aim. each_onto (done ++ aim ∷ []) rest) K
      ∙ in_turn (place_meant around (out-Formal x).target).at (λ m. variable name >>= (λ v. pure (Fills v.of name m))) (λ aim. each_onto (done ++ aim ∷ []) rest >>= K))

  unindexed : (x : Place) → (out-Place x).index ≡ None → (place_meant around x).at ≡ pure 0
  unfolding place
  unindexed x none = place_at around x ∙ ap (λ o. place (out-Place x).name.bytes (option_map (value around) o)) none

  at_zero : {B : Type 0} (f : ℕ → doing.Does Variables B) (s : State Variables) → (pure 0 >>= f) s ≡ f 0 s
  unfolding ◌>>=◌ then_do pure
  at_zero f s = refl

  pub formal_field_runs : (held : List ℤ) (after a b : ℕ) (x : Formal) (at' : Where) (base size : ℕ) (of : TypeName) (more : List Field) (ms : List Mark) (ts : List Target) → (out-Place (out-Formal x).target).index ≡ None →
      spot (out-Place (out-Formal x).target).name.bytes layout ≡ layouts.Cells at' base (suc size) of → FieldsRun held more ms ts after a b → FieldsRun held (fields.Formal x ∷ more) (marks.Formal (field_type of) ∷ ms) (ToCell at' base ∷ ts) after a b
  formal_field_runs held after a b x at' base size of more ms ts none is rest K done stack k s t r =
      let name = (out-Place (out-Formal x).target).name.bytes in
      let others = map (field_aim around) more in
      let there = subst (λ o. AtSpot (λ w. cells_at w t.variables) o (found name s.variables)) is (found_at bound layout held s t r name) in
      left_is (ap (λ d. d s) (formal_opens x done others K) ∙ (ap (λ d. (d >>= (λ m. (variable name >>= (λ v. pure (Fills v.of name m))) >>= (λ aim. each_onto (done ++ aim ∷ []) others >>= K))) s) (unindexed (out-Formal x).target none)
      ∙ (at_zero (λ m. (variable name >>= (λ v. pure (Fills v.of name m))) >>= (λ aim. each_onto (done ++ aim ∷ []) others >>= K)) s ∙ found_is name 0 of done others K s there.type)))
      (rest K (done ++ Fills of name 0 ∷ []) stack (λ all extra same long aims ns are s' t' r'.
      left_is (ap (λ l. K l s') (append_assoc done (Fills of name 0 ∷ []) aims)) (k all extra same long (Fills of name 0 ∷ aims) ns (Receives of name 0 (ToCell at' base) ms aims ns ts (refl, (size, is)) are) s' t' r')) s t r)

  at_check : (b size : ℕ) → Has p b (code.CheckIndex size) → (n : ℤ) (stack : Stack) (t : State Cells) → machine p depth frames b (n ∷ stack) t ≡ then_do ((checked (index_of n size) >>= (λ k. pure (On (n ∷ stack)))) t) (follows p depth frames (suc b))
  unfolding effect checks
  at_check b size h n stack t = steps.at p depth goes frames b _ h (n ∷ stack) t

  goes_on : (b : ℕ) (stack : Stack) (t : State Cells) → then_do (pure (On stack) t) (follows p depth frames b) ≡ machine p depth frames b stack t
  unfolding then_do pure follow
  goes_on b stack t = refl

  pub formal_element_runs : (held : List ℤ) (free after a b c : ℕ) → length held ≡ free → (x : Formal) (i : Expr) (index : TypeName) (at' : Where) (base size : ℕ) (of : TypeName) (more : List Field) (ms : List Mark) (ts : List Target) → (out-Place (out-Formal x).target).index ≡ Some i →
      spot (out-Place (out-Formal x).target).name.bytes layout ≡ layouts.Cells at' base size of → Evaluates p depth A F frames bound layout held (value around i) index a b → Has p b (code.CheckIndex size) → Has p (suc b) (code.StoreLocal (free_cell layout + free)) →
      ((k : ℕ) → FieldsRun (held ++ pos k ∷ []) more ms ts after (suc (suc b)) c) → FieldsRun held (fields.Formal x ∷ more) (marks.Formal (field_type of) ∷ ms) (ToElement at' base size (free_cell layout + free) ∷ ts) after a c
  formal_element_runs held free after a b c counted x i index at' base size of more ms ts some is ih check keep rest K done stack k s t r =
      let name = (out-Place (out-Formal x).target).name.bytes in
      let others = map (field_aim around) more in
      let behind = λ (m : ℕ). (variable name >>= (λ v. pure (Fills v.of name m))) >>= (λ aim. each_onto (done ++ aim ∷ []) others >>= K) in
      left_is (ap (λ d. d s) (formal_opens x done others K) ∙ ap (λ d. d s) (placed p depth A F goes frames bound layout held around (out-Formal x).target i some behind))
      (ih _ stack (λ iv s' t' fit r'.
      right_is (at_check b size check (number iv) stack t')
      (at_index p depth A F goes frames bound layout held around name size behind (suc b) (λ m. pure (On (number iv ∷ stack))) iv s' t' at' base of is r' (λ m lt same.
      let there = subst (λ o. AtSpot (λ w. cells_at w t'.variables) o (found name s'.variables)) is (found_at bound layout held s' t' r' name) in
      both (found_is name m of done others K s' there.type) (goes_on (suc b) (number iv ∷ stack) t' ∙ ap (λ n. machine p depth frames (suc b) (n ∷ stack) t') same)
      (stored p depth A F goes frames (suc b) Local (free_cell layout + free) keep (pos m) stack _ t' (λ room.
      rest m K (done ++ Fills of name m ∷ []) stack (λ all extra same' long aims ns are s'' t'' r''.
      left_is (ap (λ l. K l s'') (append_assoc done (Fills of name m ∷ []) aims))
      (k all (pos m ∷ extra) (same' ∙ append_assoc held (pos m ∷ []) extra) long (Fills of name m ∷ aims) ns
      (Receives of name m (ToElement at' base size (free_cell layout + free)) ms aims ns ts (is, lt, (free, refl, ap (λ l. slice_get l free) (same' ∙ append_assoc held (pos m ∷ []) extra) ∙ get_behind held (pos m ∷ extra) free 0 (omega (arith, counted)))) are) s'' t'' r'')) s' _
      (scopes.holds bound layout held s' t' r' (free_cell layout + free) (pos m) (omega (arith, counted)) room)))))) s t r)
