-- The code of assignments and of declarations.
use Rattle.std.proofs.Common.{◌≡◌, ℕ, suc, ◌+◌, List, [], ◌∷◌, Some, None, refl, sym, ap, subst, ◌∙◌, arith}
use Rattle.std.specs.Prelude.{ℤ, pos, option_map}
use Rattle.std.specs.List.{AllByRecursion}
use Rattle.cl_value.specs.declared.value.Value.{Value}
use Rattle.cl_ast.specs.declared.tree.TypeName.{TypeName}
use Rattle.cl_ast.specs.declared.tree.Expr.{Expr}
use Rattle.cl_ast.specs.declared.tree.Place.{Place, out-Place}
use Rattle.cl_ast.specs.declared.tree.Operator.{Operator}
use Rattle.cl_ast.specs.declared.tree.Operator.TheVariants as operators
use Rattle.cl_value.specs.declared.value.Value.TheVariants.{Int}
use Rattle.cl_ast.specs.declared.statement.Stmt.TheVariants as stmts
use Rattle.cl_ast.specs.declared.statement.Assign.{Assign}
use Rattle.cl_ast.specs.declared.statement.Change.{Change}
use Rattle.cl_ast.specs.declared.statement.Change.TheVariants as changes
use Rattle.cl_ast.specs.declared.statement.Size.{Size}
use Rattle.cl_listing.specs.Names.{Name}
use Rattle.cl_model.specs.Doing.{Steps, State, then_do, ◌>>=◌, ◌>>◌, pure, checked, Checked, variables, set_variables}
use Rattle.cl_model.specs.Doing as doing
use Rattle.cl_model.specs.Numbers.{number}
use Rattle.cl_meaning.specs.Operators.{operated}
use Rattle.cl_meaning.specs.Variables.{Variables, found, element}
use Rattle.cl_meaning.specs.Operations.{Does, place, value_at, store, variable}
use Rattle.cl_meaning.specs.Expressions.{Surroundings, value, place_meant}
use Rattle.cl_meaning.specs.Statements.{Exit, WentOn, going_on, updated, change_does, does}
use Rattle.cl_meaning.proofs.Equations.{place_name, place_at}
use Rattle.cl_meaning.proofs.Sentences.{of_assign}
use Rattle.cl_code.specs.Plain.{PlainProgram}
use Rattle.cl_code.specs.Machine.{Cells, Stack, Where, Local, cells_at, Frame, On, effect, follow, machine, checks, index_of}
use Rattle.cl_code.specs.Following.{follows}
use Rattle.cl_code.specs.declared.instr.Instr.{Instr}
use Rattle.cl_code.specs.declared.instr.Instr.TheVariants as code
use Rattle.cl_translation.proofs.Alike.{Same}
use Rattle.cl_translation.specs.Layout as layouts
use Rattle.cl_translation.specs.Layout.{InCells, Entry, Layout, spot, free_cell, at}
use Rattle.cl_translation.specs.Stands.{IsIn, Stands}
use Rattle.cl_translation.specs.Chosen as chosen
use Rattle.cl_translation.specs.Chosen.{common, operator_code, operator_type, conversion}
use Rattle.cl_translation.specs.Statements.{Returning}
use Rattle.cl_translation.proofs.Means.{Goes, End, Evaluates, Leads, Runs}
use Rattle.cl_translation.proofs.Notation.{in_turn, in_turn_then, both, left_is, right_is}
use Rattle.cl_translation.proofs.Spots.{AtSpot}
use Rattle.cl_translation.proofs.States.{found_at, changed_left, changed_right, changed_stands}
use Rattle.cl_translation.proofs.Scopes as scopes
use Rattle.cl_translation.proofs.Steps as steps
use Rattle.cl_translation.proofs.Operators.{RemainderAgrees}
use Rattle.cl_translation.proofs.Values.{element_lies, loads_cell}
use Rattle.cl_translation.proofs.Elements.{placed, at_index, loaded_at}
use Rattle.cl_translation.proofs.Chains.{operates}
use Rattle.cl_translation.proofs.Conversions.{passes, stored, stored_at, stores_value, converts}
use Rattle.cl_translation.specs.Lying.{Has}
use Rattle.cl_translation.proofs.Bare.{Passing}

-- the right side of a change that reads the place first, as what is done
abbrev pub IsRightSide : Surroundings → Change → Operator → Does Value → Type 0
IsRightSide around (changes.Set e) o right = ⊥
IsRightSide around (changes.Add e) o right = (operators.Add ≡ o) × (value around e ≡ right)
IsRightSide around (changes.Subtract e) o right = (operators.Subtract ≡ o) × (value around e ≡ right)
IsRightSide around (changes.Multiply e) o right = (operators.Multiply ≡ o) × (value around e ≡ right)
IsRightSide around changes.Increment o right = (operators.Add ≡ o) × (pure (Int (pos 1)) ≡ right)
IsRightSide around changes.Decrement o right = (operators.Subtract ≡ o) × (pure (Int (pos 1)) ≡ right)

module _ (p : PlainProgram) (depth : ℕ) (A : Type 0) (F : End A) (goes : Goes p depth) (frames : List Frame) (bound : ℕ) (globals : List Entry) (result : Returning) (around : Surroundings) (length_of : Size → ℕ) (outer : List (List Entry)) (inner : List Entry) (out again : ℕ) where
  abbrev layout : Layout
  layout = at globals outer inner

  -- `=`, of a place that is found so
  abbrev sets : Name → Does ℕ → Expr → Does Exit
  sets name found_place e = found_place >>= (λ m. value around e >>= (λ v. going_on (store name m v)))

  set_is : (x : Assign) (e : Expr) → x.change ≡ changes.Set e → does around length_of (stmts.Assign x) ≡ sets (out-Place x.place).name.bytes (place_meant around x.place).at e
  unfolding change_does
  set_is x e is = of_assign around length_of x ∙ (ap (λ c. change_does around length_of (place_meant around x.place) c) is ∙ ap (λ name. sets name (place_meant around x.place).at e) (place_name around x.place))

  -- behind the place
  set_behind : (name : Name) (m : ℕ) (e : Expr) (K : Exit → doing.Does Variables A) → (value around e >>= (λ v. going_on (store name m v))) >>= K ≡ value around e >>= (λ v. store name m v >>= (λ _. K WentOn))
  unfolding going_on ◌>>◌ ◌>>=◌ then_do pure
  set_behind name m e K = in_turn (value around e) (λ v. going_on (store name m v)) K ∙ ap (λ go. value around e >>= go) (Rattle.std.proofs.Math.Path.fun_ext (λ v. in_turn_then (store name m v) (pure WentOn) K))

  unindexed : (x : Place) → (out-Place x).index ≡ None → (place_meant around x).at ≡ pure 0
  unfolding place
  unindexed x none = place_at around x ∙ ap (λ o. place (out-Place x).name.bytes (option_map (value around) o)) none

  plainly : (at' : Where) (base c : ℕ) → Has p c (chosen.store at' base) → Has p c (chosen.store at' (base + 0))
  plainly at' base c h = let e : base ≡ base + 0 = omega arith in subst (λ k. Has p c (chosen.store at' k)) e h

  -- a value is converted and stored into a cell
  set_cell : (b c : ℕ) (name : Name) (from : TypeName) (at' : Where) (base size : ℕ) (of : TypeName) → spot name layout ≡ layouts.Cells at' base (suc size) of → Passing p b (conversion from of) c → Has p c (chosen.store at' base) →
      (K : Exit → doing.Does Variables A) → Leads p depth A F frames bound globals result outer inner inner (suc c) out again K → (v : Value) (s : State Variables) (t : State Cells) → IsIn from v → Stands bound layout [] s t →
      Same F ((store name 0 v >>= (λ _. K WentOn)) s) (machine p depth frames b (number v ∷ []) t)
  set_cell b c name from at' base size of is h there K k v s t fit r =
      right_is (passes p depth A F goes frames b c from of v fit h [] t)
      (stores_value p depth A F goes frames bound layout [] name 0 v from at' base (suc size) of (λ _. K WentOn) (λ n. machine p depth frames c (n ∷ [])) s t fit is (omega arith) r (λ w fit'.
      stored p depth A F goes frames c at' (base + 0) (plainly at' base c there) (number w) [] _ t (λ lt.
      k.went (changed_left bound layout [] s t r name 0 w) (changed_right bound layout [] s t r name 0 w at' (base + 0)) (changed_stands bound layout [] s t r name 0 w at' base (suc size) of is (omega arith) fit'))))

  pub setting_runs : (a b c : ℕ) (x : Assign) (e : Expr) (from : TypeName) (at' : Where) (base size : ℕ) (of : TypeName) → x.change ≡ changes.Set e → (out-Place x.place).index ≡ None → spot (out-Place x.place).name.bytes layout ≡ layouts.Cells at' base (suc size) of →
      Evaluates p depth A F frames bound layout [] (value around e) from a b → Passing p b (conversion from of) c → Has p c (chosen.store at' base) → Runs p depth A F frames bound globals result outer inner inner out again (does around length_of (stmts.Assign x)) a (suc c)
  unfolding ◌>>=◌ then_do pure
  setting_runs a b c x e from at' base size of set none is ih h there K k s t r =
      let name = (out-Place x.place).name.bytes in
      left_is (ap (λ d. (d >>= K) s) (set_is x e set ∙ ap (λ d. sets name d e) (unindexed x.place none)) ∙ ap (λ d. d s) (set_behind name 0 e K))
      (ih (λ v. store name 0 v >>= (λ _. K WentOn)) [] (λ v s' t' fit r'. set_cell b c name from at' base size of is h there K k v s' t' fit r') s t r)

  at_check : (b size : ℕ) → Has p b (code.CheckIndex size) → (n : ℤ) (stack : Stack) (t : State Cells) → machine p depth frames b (n ∷ stack) t ≡ then_do ((checked (index_of n size) >>= (λ k. pure (On (n ∷ stack)))) t) (follows p depth frames (suc b))
  unfolding effect checks
  at_check b size h n stack t = steps.at p depth goes frames b _ h (n ∷ stack) t

  goes_on : (b : ℕ) (stack : Stack) (t : State Cells) → then_do (pure (On stack) t) (follows p depth frames b) ≡ machine p depth frames b stack t
  unfolding then_do pure follow
  goes_on b stack t = refl

  pub setting_element_runs : (a b c d : ℕ) (x : Assign) (i e : Expr) (index from : TypeName) (at' : Where) (base size : ℕ) (of : TypeName) → x.change ≡ changes.Set e → (out-Place x.place).index ≡ Some i → spot (out-Place x.place).name.bytes layout ≡ layouts.Cells at' base size of →
      Evaluates p depth A F frames bound layout [] (value around i) index a b → Has p b (code.CheckIndex size) → Evaluates p depth A F frames bound layout [] (value around e) from (suc b) c → Passing p c (conversion from of) d → Has p d (chosen.store_at at' base size) →
      Runs p depth A F frames bound globals result outer inner inner out again (does around length_of (stmts.Assign x)) a (suc d)
  setting_element_runs a b c d x i e index from at' base size of set some is ihi check ih h there K k s t r =
      let name = (out-Place x.place).name.bytes in
      let rest = λ (m : ℕ). value around e >>= (λ v. going_on (store name m v)) in
      left_is (ap (λ d. (d >>= K) s) (set_is x e set) ∙ (ap (λ d. d s) (in_turn (place_meant around x.place).at rest K) ∙ ap (λ d. d s) (placed p depth A F goes frames bound layout [] around x.place i some (λ m. rest m >>= K))))
      (ihi _ [] (λ iv s' t' fit r'.
      right_is (at_check b size check (number iv) [] t')
      (at_index p depth A F goes frames bound layout [] around name size (λ m. rest m >>= K) (suc b) (λ m. pure (On (number iv ∷ []))) iv s' t' at' base of is r' (λ m lt same.
      both (ap (λ d. d s') (set_behind name m e K)) (goes_on (suc b) (number iv ∷ []) t' ∙ ap (λ n. machine p depth frames (suc b) (n ∷ []) t') same)
      (ih (λ v. store name m v >>= (λ _. K WentOn)) (pos m ∷ []) (λ v s'' t'' fit' r''.
      right_is (passes p depth A F goes frames c d from of v fit' h (pos m ∷ []) t'')
      (stores_value p depth A F goes frames bound layout [] name m v from at' base size of (λ _. K WentOn) (λ n. machine p depth frames d (n ∷ pos m ∷ [])) s'' t'' fit' is lt r'' (λ w fit''.
      stored_at p depth A F goes frames d at' base size m there lt (number w) [] _ t'' (λ room.
      k.went (changed_left bound layout [] s'' t'' r'' name m w) (changed_right bound layout [] s'' t'' r'' name m w at' (base + m)) (changed_stands bound layout [] s'' t'' r'' name m w at' base size of is lt fit''))))) s' t' r')))) s t r)

  -- ---- `x += e`

  abbrev updates : Name → Does ℕ → Operator → Does Value → Does Exit
  updates name found_place o right = found_place >>= (λ m. value_at name m >>= (λ old. right >>= (λ v. checked (operated o old v) >>= (λ new. going_on (store name m new)))))

  update_is : (x : Assign) (o : Operator) (right : Does Value) → IsRightSide around x.change o right → does around length_of (stmts.Assign x) ≡ updates (out-Place x.place).name.bytes (place_meant around x.place).at o right
  unfolding change_does updated
  update_is x o right is = of_assign around length_of x ∙ (by x.change is ∙ ap (λ name. updates name (place_meant around x.place).at o right) (place_name around x.place))
    where
      by : (c : Change) → IsRightSide around c o right → change_does around length_of (place_meant around x.place) c ≡ updates (place_meant around x.place).name (place_meant around x.place).at o right
      by (changes.Set f) is = absurd is
      by (changes.Add f) is = ap (λ u. updates (place_meant around x.place).name (place_meant around x.place).at u (value around f)) is.0 ∙ ap (λ u. updates (place_meant around x.place).name (place_meant around x.place).at o u) is.1
      by (changes.Subtract f) is = ap (λ u. updates (place_meant around x.place).name (place_meant around x.place).at u (value around f)) is.0 ∙ ap (λ u. updates (place_meant around x.place).name (place_meant around x.place).at o u) is.1
      by (changes.Multiply f) is = ap (λ u. updates (place_meant around x.place).name (place_meant around x.place).at u (value around f)) is.0 ∙ ap (λ u. updates (place_meant around x.place).name (place_meant around x.place).at o u) is.1
      by changes.Increment is = ap (λ u. updates (place_meant around x.place).name (place_meant around x.place).at u (pure (Int (pos 1)))) is.0 ∙ ap (λ u. updates (place_meant around x.place).name (place_meant around x.place).at o u) is.1
      by changes.Decrement is = ap (λ u. updates (place_meant around x.place).name (place_meant around x.place).at u (pure (Int (pos 1)))) is.0 ∙ ap (λ u. updates (place_meant around x.place).name (place_meant around x.place).at o u) is.1

  update_there : (name : Name) (o : Operator) (right : Does Value) (K : Exit → doing.Does Variables A) (s : State Variables) →
      (updates name (pure 0) o right >>= K) s ≡ (right >>= (λ v. checked (operated o (element 0 (found name s.variables)) v) >>= (λ new. store name 0 new >>= (λ _. K WentOn)))) s
  unfolding ◌>>=◌ ◌>>◌ then_do pure value_at variable variables going_on
  update_there name o right K s = ap (λ d. d s) (in_turn (right) (λ v. checked (operated o (element 0 (found name s.variables)) v) >>= (λ new. going_on (store name 0 new))) K
      ∙ ap (λ go. right >>= go) (Rattle.std.proofs.Math.Path.fun_ext (λ v. in_turn (checked (operated o (element 0 (found name s.variables)) v)) (λ new. going_on (store name 0 new)) K
      ∙ ap (λ go. checked (operated o (element 0 (found name s.variables)) v) >>= go) (Rattle.std.proofs.Math.Path.fun_ext (λ new. in_turn_then (store name 0 new) (pure WentOn) K)))))

  module _ (remainders : RemainderAgrees) where
    pub updating_runs : (a b c : ℕ) (x : Assign) (o : Operator) (right : Does Value) (from : TypeName) (i : Instr) (at' : Where) (base size : ℕ) (of : TypeName) → IsRightSide around x.change o right → (out-Place x.place).index ≡ None → spot (out-Place x.place).name.bytes layout ≡ layouts.Cells at' base (suc size) of →
        Has p a (chosen.load at' base) → Evaluates p depth A F frames bound layout [] (right) from (suc a) b → operator_code o (common of from) ≡ Some i → Has p b i → Passing p (suc b) (conversion (operator_type o (common of from)) of) c → Has p c (chosen.store at' base) →
        Runs p depth A F frames bound globals result outer inner inner out again (does around length_of (stmts.Assign x)) a (suc c)
    updating_runs a b c x o right from i at' base size of update none is load ih computes h converts there K k s t r =
        let name = (out-Place x.place).name.bytes in
        let old = element 0 (found name s.variables) in
        let lies = element_lies (cells_at at' t.variables) base (suc size) 0 of (found name s.variables) (subst (λ o. AtSpot (λ w. cells_at w t.variables) o (found name s.variables)) is (found_at bound layout [] s t r name)) (omega arith) in
        let same : base + 0 ≡ base = omega arith in
        both (ap (λ d. (d >>= K) s) (update_is x o right update ∙ ap (λ d. updates name d o right) (unindexed x.place none)) ∙ update_there name o right K s)
        (loads_cell p depth A F goes frames bound layout [] around a at' base (number old) load [] t (sym (ap (λ m. Rattle.std.specs.Prelude.slice_get (cells_at at' t.variables) m) same) ∙ lies.there))
        (ih (λ v. checked (operated o old v) >>= (λ new. store name 0 new >>= (λ _. K WentOn))) (number old ∷ []) (λ v s' t' fit r'.
        operates p depth A F goes frames bound layout [] remainders b o of from i computes h old v lies.typed fit (λ new. store name 0 new >>= (λ _. K WentOn)) []
        (λ new s'' t'' fit' r''. set_cell (suc b) c name (operator_type o (common of from)) at' base size of is converts there K k new s'' t'' fit' r'') s' t' r') s t r)

    -- behind the place of an element
    update_behind : (name : Name) (m : ℕ) (o : Operator) (right : Does Value) (K : Exit → doing.Does Variables A) (s : State Variables) →
        ((value_at name m >>= (λ old. right >>= (λ v. checked (operated o old v) >>= (λ new. going_on (store name m new))))) >>= K) s ≡ (right >>= (λ v. checked (operated o (element m (found name s.variables)) v) >>= (λ new. store name m new >>= (λ _. K WentOn)))) s
    unfolding ◌>>=◌ ◌>>◌ then_do pure value_at variable variables going_on
    update_behind name m o right K s = ap (λ d. d s) (in_turn (right) (λ v. checked (operated o (element m (found name s.variables)) v) >>= (λ new. going_on (store name m new))) K
        ∙ ap (λ go. right >>= go) (Rattle.std.proofs.Math.Path.fun_ext (λ v. in_turn (checked (operated o (element m (found name s.variables)) v)) (λ new. going_on (store name m new)) K
        ∙ ap (λ go. checked (operated o (element m (found name s.variables)) v) >>= go) (Rattle.std.proofs.Math.Path.fun_ext (λ new. in_turn_then (store name m new) (pure WentOn) K)))))

    pub updating_element_runs : (a b c d : ℕ) (x : Assign) (o : Operator) (right : Does Value) (ix : Expr) (index from : TypeName) (i : Instr) (at' : Where) (base size : ℕ) (of : TypeName) → IsRightSide around x.change o right → (out-Place x.place).index ≡ Some ix → spot (out-Place x.place).name.bytes layout ≡ layouts.Cells at' base size of →
        Evaluates p depth A F frames bound layout [] (value around ix) index a b → Has p b (code.CheckIndex size) → Has p (suc b) (code.StoreLocal (free_cell layout)) → Has p (suc (suc b)) (code.LoadLocal (free_cell layout)) → Has p (suc (suc (suc b))) (code.LoadLocal (free_cell layout)) → Has p (suc (suc (suc (suc b)))) (chosen.load_at at' base size) →
        Evaluates p depth A F frames bound layout [] (right) from (suc (suc (suc (suc (suc b))))) c → operator_code o (common of from) ≡ Some i → Has p c i → Passing p (suc c) (conversion (operator_type o (common of from)) of) d → Has p d (chosen.store_at at' base size) →
        Runs p depth A F frames bound globals result outer inner inner out again (does around length_of (stmts.Assign x)) a (suc d)
    updating_element_runs a b c d x o right ix index from i at' base size of update some is ihi check keep load1 load2 load3 ih computes h converts there K k s t r =
        let name = (out-Place x.place).name.bytes in
        let rest = λ (m : ℕ). value_at name m >>= (λ old. right >>= (λ v. checked (operated o old v) >>= (λ new. going_on (store name m new)))) in
        left_is (ap (λ q. (q >>= K) s) (update_is x o right update) ∙ (ap (λ q. q s) (in_turn (place_meant around x.place).at rest K) ∙ ap (λ q. q s) (placed p depth A F goes frames bound layout [] around x.place ix some (λ m. rest m >>= K))))
        (ihi _ [] (λ iv s' t' fit r'.
        right_is (at_check b size check (number iv) [] t')
        (at_index p depth A F goes frames bound layout [] around name size (λ m. rest m >>= K) (suc b) (λ m. pure (On (number iv ∷ []))) iv s' t' at' base of is r' (λ m lt same.
        both (update_behind name m o right K s') (goes_on (suc b) (number iv ∷ []) t' ∙ ap (λ n. machine p depth frames (suc b) (n ∷ []) t') same)
        (stored p depth A F goes frames (suc b) Local (free_cell layout) keep (pos m) [] _ t' (λ room.
        let kept = scopes.holds bound layout [] s' t' r' (free_cell layout) (pos m) (omega arith) room in
        let t1 = scopes.put bound layout [] s' t' r' (free_cell layout) (pos m) in
        let held_is = ap (λ n. Rattle.std.specs.Prelude.slice_get t1.variables.frame n) plain_cell ∙ scopes.held_there bound layout (pos m ∷ []) s' t1 kept 0 (omega arith) in
        let back = scopes.lets_go bound layout [] (pos m ∷ []) s' t1 kept in
        let lies = element_lies (cells_at at' t1.variables) base size m of (found name s'.variables) (subst (λ o. AtSpot (λ w. cells_at w t1.variables) o (found name s'.variables)) is (found_at bound layout [] s' t1 back name)) lt in
        right_is (loads_cell p depth A F goes frames bound layout [] around (suc (suc b)) Local (free_cell layout) (pos m) load1 [] t1 held_is
        ∙ (loads_cell p depth A F goes frames bound layout [] around (suc (suc (suc b))) Local (free_cell layout) (pos m) load2 (pos m ∷ []) t1 held_is
        ∙ loaded_at p depth A F goes frames bound layout [] around (suc (suc (suc (suc b)))) at' base size m load3 lt (number (element m (found name s'.variables))) (pos m ∷ []) t1 lies.there))
        (ih (λ v. checked (operated o (element m (found name s'.variables)) v) >>= (λ new. store name m new >>= (λ _. K WentOn))) (number (element m (found name s'.variables)) ∷ pos m ∷ []) (λ v s2 t2 fit2 r2.
        operates p depth A F goes frames bound layout [] remainders c o of from i computes h (element m (found name s'.variables)) v lies.typed fit2 (λ new. store name m new >>= (λ _. K WentOn)) (pos m ∷ []) (λ new s3 t3 fit3 r3.
        right_is (passes p depth A F goes frames (suc c) d (operator_type o (common of from)) of new fit3 converts (pos m ∷ []) t3)
        (stores_value p depth A F goes frames bound layout [] name m new (operator_type o (common of from)) at' base size of (λ _. K WentOn) (λ n. machine p depth frames d (n ∷ pos m ∷ [])) s3 t3 fit3 is lt r3 (λ w fit4.
        stored_at p depth A F goes frames d at' base size m there lt (number w) [] _ t3 (λ room'.
        k.went (changed_left bound layout [] s3 t3 r3 name m w) (changed_right bound layout [] s3 t3 r3 name m w at' (base + m)) (changed_stands bound layout [] s3 t3 r3 name m w at' base size of is lt fit4))))) s2 t2 r2) s' t1 back)))))) s t r)
      where
        plain_cell : free_cell layout ≡ free_cell layout + 0
        plain_cell = omega arith
