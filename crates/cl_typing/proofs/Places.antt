-- Reading and changing variables where what is known stands: what is read is of the type that is judged, and all variables stay of theirs.
use Rattle.std.proofs.Common.{◌≡◌, ◌∙◌, sym, subst, refl, ℕ, Bool, true, false, List, [], ◌∷◌, ◌++◌, length, Option, Some, None}
use Rattle.std.specs.List.{AllByRecursion}
use Rattle.cl_value.specs.declared.value.Value.{Value}
use Rattle.cl_value.specs.Plain.{PlainRequest}
use Rattle.cl_ast.specs.declared.tree.TypeName.{TypeName}
use Rattle.cl_ast.specs.declared.statement.Function.{Function}
use Rattle.cl_model.specs.Doing.{variables, checked}
use Rattle.cl_model.specs.Numbers.{number}
use Rattle.cl_listing.specs.Names.{Name}
use Rattle.cl_meaning.specs.Operators.{converted}
use Rattle.cl_meaning.specs.Variables.{Variable, Variables, found, element, with_element, changed}
use Rattle.cl_meaning.specs.Operations.{Does, index_of, variable, place, value_at, store}
use Rattle.cl_types.specs.declared.context.Access.{Access}
use Rattle.cl_types.specs.declared.context.Access.TheVariants as accesses
use Rattle.cl_types.specs.declared.declared.Declared.{Declared}
use Rattle.cl_types.specs.declared.declared.Declared.TheVariants as declareds
use Rattle.cl_types.specs.declared.declared.Number.{Number}
use Rattle.cl_types.specs.Numbers.{number_type}
use Rattle.cl_types.specs.Declarations.{Declaration, Known, look_up}
use Rattle.cl_types.specs.Expressions.{access_type, unless_typed, place_type, place_faults}
use Rattle.cl_typing.specs.Values.{IsOf, IsNumber}
use Rattle.cl_typing.specs.Standing.{FitsAs, Fits, standing, IsVariable, Sees}
use Rattle.cl_typing.specs.Steps.{Keeps}
use Rattle.cl_typing.proofs.Operating.{converted_is}
use Rattle.cl_typing.proofs.Found.{KeepsAs, found_fits, changed_fits, element_is, constant_element, scalar_keeps, array_keeps, constant_typed}
use Rattle.cl_typing.proofs.Leading.{right_bind, right_variables, right_pure, right_set, keeps_bind, keeps_pure, keeps_checked}

-- ---- what an access says of a variable

some_is : {A : Type 0} (x y : A) → Some x ≡ Some y → x ≡ y
some_is x y h = cc

-- it has the type that is judged of it
pub accessed : (access : Access) (i : Bool) (what : Declared) (t : TypeName) (v : Variable) → access_type access i what ≡ Some t → FitsAs what v → (v.of ≡ t) × AllByRecursion (IsOf t) v.values
accessed accesses.Read false (declareds.Scalar u) t v h f = let is = some_is u t h in (f.0 ∙ is, subst (λ w. AllByRecursion (IsOf w) v.values) is f.2)
accessed accesses.Write false (declareds.Scalar u) t v h f = let is = some_is u t h in (f.0 ∙ is, subst (λ w. AllByRecursion (IsOf w) v.values) is f.2)
accessed accesses.Read true (declareds.Array u) t v h f = let is = some_is u t h in (f.0 ∙ is, subst (λ w. AllByRecursion (IsOf w) v.values) is f.1)
accessed accesses.Write true (declareds.Array u) t v h f = let is = some_is u t h in (f.0 ∙ is, subst (λ w. AllByRecursion (IsOf w) v.values) is f.1)
accessed accesses.Read false (declareds.Constant n) t v h f = let is = some_is (number_type n) t h in (f.0 ∙ is, subst (λ w. AllByRecursion (IsOf w) v.values) is (constant_typed n v f))
accessed accesses.Read true (declareds.Scalar u) t v h f = absurd cc
accessed accesses.Write true (declareds.Scalar u) t v h f = absurd cc
accessed accesses.Read false (declareds.Array u) t v h f = absurd cc
accessed accesses.Write false (declareds.Array u) t v h f = absurd cc
accessed accesses.Read true (declareds.Constant n) t v h f = absurd cc
accessed accesses.Write false (declareds.Constant n) t v h f = absurd cc
accessed accesses.Write true (declareds.Constant n) t v h f = absurd cc
accessed accesses.Read false (declareds.Function g) t v h f = absurd cc
accessed accesses.Read true (declareds.Function g) t v h f = absurd cc
accessed accesses.Write false (declareds.Function g) t v h f = absurd cc
accessed accesses.Write true (declareds.Function g) t v h f = absurd cc

-- what is written is no constant
pub written : (i : Bool) (what : Declared) (t : TypeName) (at : ℕ) (w : Value) → access_type accesses.Write i what ≡ Some t → IsOf t w → KeepsAs what (with_element at w)
written false (declareds.Scalar u) t at w h is = scalar_keeps u at w (subst (λ x. IsOf x w) (sym (some_is u t h)) is)
written true (declareds.Array u) t at w h is = array_keeps u at w (subst (λ x. IsOf x w) (sym (some_is u t h)) is)
written true (declareds.Scalar u) t at w h is = absurd cc
written false (declareds.Array u) t at w h is = absurd cc
written false (declareds.Constant n) t at w h is = absurd cc
written true (declareds.Constant n) t at w h is = absurd cc
written false (declareds.Function g) t at w h is = absurd cc
written true (declareds.Function g) t at w h is = absurd cc

accesses_variable : (access : Access) (i : Bool) (what : Declared) (t : TypeName) → access_type access i what ≡ Some t → IsVariable what
accesses_variable access i (declareds.Scalar u) t h = tt
accesses_variable access i (declareds.Array u) t h = tt
accesses_variable access i (declareds.Constant n) t h = tt
accesses_variable accesses.Read false (declareds.Function g) t h = absurd cc
accesses_variable accesses.Read true (declareds.Function g) t h = absurd cc
accesses_variable accesses.Write false (declareds.Function g) t h = absurd cc
accesses_variable accesses.Write true (declareds.Function g) t h = absurd cc

-- ---- a name that may be accessed so

-- what is known of it, and that it stands
pub record Accesses (globals : List Declaration) (locals : List (List Declaration)) (name : Name) (access : Access) (i : Bool) (found : Option TypeName) : Type 0 where
  pub what : Declared
  pub type : TypeName
  pub stands : standing name globals locals ≡ Some what
  pub typed : access_type access i what ≡ Some type
  pub found_is : found ≡ Some type

pub may_access : (functions : List Function) (globals : List Declaration) (outer : List (List Declaration)) (inner : List Declaration) (known : Known) → Sees functions globals outer inner known → (name : Name) (access : Access) (i : Bool) →
    place_faults access i (look_up name known) ≡ [] → Accesses globals (outer ++ inner ∷ []) name access i (place_type access i (look_up name known))
may_access functions globals outer inner known sees name access i h = by (look_up name known) refl h
  where
    typed : (what : Declared) → look_up name known ≡ Some what → (t : Option TypeName) → access_type access i what ≡ t → unless_typed t ≡ [] → Accesses globals (outer ++ inner ∷ []) name access i t
    typed what is None a f = absurd cc
    typed what is (Some t) a f = record { what = what; type = t; stands = sees.stands name what is (accesses_variable access i what t a); typed = a; found_is = refl }

    by : (o : Option Declared) → look_up name known ≡ o → place_faults access i o ≡ [] → Accesses globals (outer ++ inner ∷ []) name access i (place_type access i o)
    by None is f = absurd cc
    by (Some what) is f = typed what is (access_type access i what) refl f

-- ---- what is done with variables

module _ (R : PlainRequest → Type 0) (globals : List Declaration) (locals : List (List Declaration)) where
  abbrev Kept : Variables → Type 0
  Kept all = Fits globals locals all

  pub variable_keeps : (name : Name) (what : Declared) → standing name globals locals ≡ Some what → Keeps R Kept (FitsAs what) (variable name)
  unfolding variable
  variable_keeps name what is = right_bind R Kept (λ all v. Kept v × Kept all) (λ x v. Kept v × FitsAs what x) variables _ (right_variables R Kept (λ all v. Kept v × Kept all) (λ v w. (w, w)))
      (λ all. right_pure R (λ v. Kept v × Kept all) (λ x v. Kept v × FitsAs what x) (found name all) (λ v w. (w.0, found_fits name what globals locals all is w.1)))

  pub variable_any : (name : Name) → Keeps R Kept (λ v. Unit {0}) (variable name)
  unfolding variable
  variable_any name = right_bind R Kept (λ all v. Kept v × Unit {0}) (λ x v. Kept v × Unit {0}) variables _ (right_variables R Kept (λ all v. Kept v × Unit {0}) (λ v w. (w, tt)))
      (λ all. right_pure R (λ v. Kept v × Unit {0}) (λ x v. Kept v × Unit {0}) (found name all) (λ v w. w))

  pub value_keeps : (name : Name) (access : Access) (i : Bool) (found : Option TypeName) (at : ℕ) → (a : Accesses globals locals name access i found) → Keeps R Kept (λ v. IsOf a.type v) (value_at name at)
  unfolding value_at
  value_keeps name access i found at a = keeps_bind R Kept (FitsAs a.what) (λ v. IsOf a.type v) (variable name) _ (variable_keeps name a.what a.stands)
      (λ v f. let r = accessed access i a.what a.type v a.typed f in keeps_pure R Kept (λ v. IsOf a.type v) (element at v) (element_is a.type at v r.0 r.1))

  pub value_any : (name : Name) (at : ℕ) → Keeps R Kept (λ v. Unit {0}) (value_at name at)
  unfolding value_at
  value_any name at = keeps_bind R Kept (λ v. Unit {0}) (λ v. Unit {0}) (variable name) _ (variable_any name) (λ v u. keeps_pure R Kept (λ v. Unit {0}) (element at v) tt)

  pub number_keeps : (name : Name) (n : Number) → standing name globals locals ≡ Some (declareds.Constant n) → Keeps R Kept (IsNumber n) (value_at name 0)
  unfolding value_at
  number_keeps name n is = keeps_bind R Kept (FitsAs (declareds.Constant n)) (IsNumber n) (variable name) _ (variable_keeps name (declareds.Constant n) is)
      (λ v f. keeps_pure R Kept (IsNumber n) (element 0 v) (constant_element n v f))

  -- ---- a value is stored

  pub store_keeps : (name : Name) (i : Bool) (found : Option TypeName) (at : ℕ) (value : Value) → Accesses globals locals name accesses.Write i found → Keeps R Kept (λ u. Unit {0}) (store name at value)
  unfolding store
  store_keeps name i found at value a = keeps_bind R Kept (FitsAs a.what) (λ u. Unit {0}) (variable name) _ (variable_keeps name a.what a.stands) (λ v f.
      let r = accessed accesses.Write i a.what a.type v a.typed f in
      keeps_bind R Kept (IsOf a.type) (λ u. Unit {0}) (checked (converted v.of value)) _ (keeps_checked R Kept (IsOf a.type) (converted v.of value) (λ w is. subst (λ t. IsOf t w) r.0 (converted_is v.of value w is)))
      (λ w is. right_bind R Kept (λ all v. Kept all) (λ u v. Kept v × Unit {0}) variables _ (right_variables R Kept (λ all v. Kept all) (λ v k. k))
      (λ all. right_set R (λ v. Kept all) (λ u v. Kept v × Unit {0}) (changed name (with_element at w) all)
      (λ v k. (changed_fits name a.what globals locals all (with_element at w) (written i a.what a.type at w a.typed is) a.stands k, tt)))))

  -- ---- places

  pub place_alone : (name : Name) → Keeps R Kept (λ k. k ≡ 0) (place name None)
  unfolding place
  place_alone name = keeps_pure R Kept (λ k. k ≡ 0) 0 refl

  pub place_indexed : (P : Value → Type 0) (name : Name) (index : Does Value) → Keeps R Kept P index → Keeps R Kept (λ k. Unit {0}) (place name (Some index))
  unfolding place
  place_indexed P name index h = keeps_bind R Kept P (λ k. Unit {0}) index _ h (λ x p.
      keeps_bind R Kept (λ v. Unit {0}) (λ k. Unit {0}) (variable name) _ (variable_any name) (λ v u.
      keeps_checked R Kept (λ k. Unit {0}) (index_of (number x) (length v.values)) (λ k is. tt)))
