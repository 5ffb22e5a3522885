-- Where names and places of variables are met, in a place of a text in which no fault is noted, they are there. (ISO/IEC 9899:1999, 6.2.1 and
-- 6.5.2.1.)
use Rattle.std.specs.Prelude.{◌≡◌, ◌<◌, ℕ, true, List, [], ◌∷◌, ◌++◌, map, length, Some, pos, slice_get, unwrap_or}
use Rattle.std.specs.List.{list_any}
use Rattle.cl_value.specs.declared.value.Value.{Value}
use Rattle.cl_value.specs.declared.value.Value.TheVariants.{Int}
use Rattle.cl_value.specs.Plain.{PlainRequest}
use Rattle.cl_ast.specs.declared.tree.TypeName.{TypeName}
use Rattle.cl_ast.specs.declared.statement.Declarator.{Declarator}
use Rattle.cl_ast.specs.declared.tree.Expr.{Expr}
use Rattle.cl_ast.specs.declared.tree.Expr.TheVariants as exprs
use Rattle.cl_ast.specs.declared.tree.Place.{Place, out-Place}
use Rattle.cl_ast.specs.declared.tree.Operation.{Operation, out-Operation}
use Rattle.cl_ast.specs.declared.statement.Stmt.TheVariants as stmts
use Rattle.cl_ast.specs.declared.statement.Assign.{Assign}
use Rattle.cl_ast.specs.declared.statement.Change.{Change}
use Rattle.cl_ast.specs.declared.statement.Change.TheVariants as changes
use Rattle.cl_ast.specs.declared.statement.Item.{Item}
use Rattle.cl_listing.specs.Names.{Name}
use Rattle.cl_model.specs.Doing.{◌>>=◌, pure, each}
use Rattle.cl_meaning.specs.Variables.{Variable, Variables, has, in_scope, found_from, found, element, with_element, changed}
use Rattle.cl_meaning.specs.Operations.{Does, value_at, store, Aim, Holds, Fills}
use Rattle.cl_meaning.specs.Expressions.{Surroundings, value, place_meant}
use Rattle.cl_meaning.specs.Statements.{change_does, declarator_does, does}
use Rattle.cl_meaning.specs.Statements as meaning
use Rattle.cl_meaning.specs.Outer.{outer, size_in, functions_of}
use Rattle.cl_meaning.specs.Parts.{field_aim}
use Rattle.cl_types.specs.declared.context.Access.{Access}
use Rattle.cl_types.specs.declared.context.Context.{Context}
use Rattle.cl_types.specs.Expressions.{judged, judged_place, operation_notes}
use Rattle.cl_types.specs.declared.context.Reach.TheVariants as reaches
use Rattle.cl_types.specs.Statements.{in_order, declarator_walked, walked}
use Rattle.cl_types.specs.Unit.{faults}
use Rattle.cl_typing.specs.Bodies.{are_settled}
use Rattle.cl_typing.specs.Steps.{Right}
use Rattle.cl_typing.specs.Standing.{Fits, Fresh, Scene}
use Rattle.cl_typing.specs.Texts.{outside}
use Rattle.cl_typing.specs.Laws.{NoFault, around}
use Rattle.cl_cases.specs.Outlines.{Ends, outline}

-- ---- what is there

-- a variable of this name is in a scope
abbrev pub IsDeclared : Name → Variables → Type 0
IsDeclared name all = list_any (has name) (all.globals ∷ all.locals) ≡ true

-- it is, and has a value at this place
abbrev pub IsThere : Name → ℕ → Variables → Type 0
IsThere name at all = IsDeclared name all × (at < length (found name all).values)

-- so has each place that is to get a value
abbrev pub AreThere : List Aim → Variables → Type 0
AreThere [] all = Unit {0}
AreThere (Holds v ∷ more) all = AreThere more all
AreThere (Fills of name at ∷ more) all = IsThere name at all × AreThere more all

-- ---- laws of variables

-- What a name that is in a scope stands for is the same whatever an unknown name stands for, and a change by the name is a change of it. What is read at a
-- place that is there is the same whatever is read beyond the values, and what is stored there is what is read there then.
abbrev pub WhatIsThereIsMet : Type 0
WhatIsThereIsMet =
    (name : Name) (all : Variables) →
    (IsDeclared name all →
    ((other : Variable) → found_from name all.locals (in_scope name all.globals other) ≡ found name all)
    × ((change : Variable → Variable) → ((v : Variable) → (change v).name ≡ v.name) → found name (changed name change all) ≡ change (found name all)))
    × ((at : ℕ) → IsThere name at all →
    ((other : Value) → unwrap_or (slice_get (found name all).values at) other ≡ element at (found name all)) × ((v : Value) → element at (found name (changed name (with_element at v) all)) ≡ v))

-- What is declared, and what is there, is so wherever the outline is the same.
abbrev pub OutlinesTellPlaces : Type 0
OutlinesTellPlaces =
    (name : Name) (all now : Variables) → outline now ≡ outline all → (IsDeclared name all → IsDeclared name now) × ((at : ℕ) → IsThere name at all → IsThere name at now)
    × ((fields : List Aim) → AreThere fields all → AreThere fields now)

-- ---- laws of places of a text

-- a place of this text, and variables that have the outline of variables that fit there: what is evaluated there leaves it so
abbrev pub SceneOf : List Item → Type 0
SceneOf xs = Scene (functions_of xs) (outside xs)

abbrev pub IsOutlined : (xs : List Item) → SceneOf xs → Variables → Type 0
IsOutlined xs c all = (fitting : Variables) × Fits (outside xs) (c.outer ++ c.inner ∷ []) fitting × (outline all ≡ outline fitting)

-- Behind the first declarators of a declaration there is a scene of what is known there, as behind a statement.
abbrev pub DeclaratorsLead : Type 0
DeclaratorsLead =
    (xs : List Item) → faults xs ≡ [] → are_settled xs ≡ true → (depth more : ℕ) (c : SceneOf xs) (t : TypeName) (first : List Declarator) → Fresh c.inner c.known →
    NoFault (in_order (map (declarator_walked reaches.Local t) first) c.known).notes →
    (d : SceneOf xs) × (d.outer ≡ c.outer) × (d.known ≡ (in_order (map (declarator_walked reaches.Local t) first) c.known).known) × Fresh d.inner d.known
    × Right (λ (q : PlainRequest). Unit {0}) (Fits (outside xs) (c.outer ++ c.inner ∷ [])) (λ e all. Fits (outside xs) (d.outer ++ d.inner ∷ []) all) (meaning.in_order (map (declarator_does (around xs depth more) (size_in (outer xs)) t) first))

-- Where no fault is noted in a place its variable is in a scope, before its index is evaluated and behind it; and where the place is found it is there.
abbrev pub PlacesAreThere : Type 0
PlacesAreThere =
    (xs : List Item) (depth more : ℕ) (c : SceneOf xs) (access : Access) (p : Place) → NoFault (judged_place p access c.known).notes →
    ((all : Variables) → IsOutlined xs c all → IsDeclared (out-Place p).name.bytes all)
    × ((x : Expr) → (out-Place p).index ≡ Some x → Ends (IsOutlined xs c) (λ v all. IsDeclared (out-Place p).name.bytes all) (value (around xs depth more) x))
    × Ends (IsOutlined xs c) (λ k all. IsThere (out-Place p).name.bytes k all) (place_meant (around xs depth more) p).at

-- Where no fault is noted in a name that is an expression, a value is read that is there.
abbrev pub ReadsAreThere : Type 0
ReadsAreThere =
    (xs : List Item) (depth more : ℕ) (c : SceneOf xs) (p : Place) → NoFault (judged (exprs.Place p) c.known).notes →
    (value (around xs depth more) (exprs.Place p) ≡ (place_meant (around xs depth more) p).at >>= value_at (out-Place p).name.bytes)
    × Ends (IsOutlined xs c) (λ k all. IsThere (out-Place p).name.bytes k all) (place_meant (around xs depth more) p).at

-- what is evaluated on the right of a change
abbrev pub right_side : Surroundings → Change → Does Value
right_side around (changes.Set x) = value around x
right_side around (changes.Add x) = value around x
right_side around (changes.Subtract x) = value around x
right_side around (changes.Multiply x) = value around x
right_side around changes.Increment = pure (Int (pos 1))
right_side around changes.Decrement = pure (Int (pos 1))

-- Where no fault is noted in an assignment its place is there when it is found, where an old value is read, and still is behind the right side, where the new one
-- is stored.
abbrev pub AssignmentsAreThere : Type 0
AssignmentsAreThere =
    (xs : List Item) (depth more : ℕ) (c : SceneOf xs) (context : Context) (a : Assign) → NoFault (walked (stmts.Assign a) context c.known).notes →
    (does (around xs depth more) (size_in (outer xs)) (stmts.Assign a) ≡ change_does (around xs depth more) (size_in (outer xs)) (place_meant (around xs depth more) a.place) a.change)
    × Ends (IsOutlined xs c) (λ k all. IsThere (out-Place a.place).name.bytes k all) (place_meant (around xs depth more) a.place).at
    × Ends (IsOutlined xs c) (λ (r : ℕ × Value) all. IsThere (out-Place a.place).name.bytes r.0 all) ((place_meant (around xs depth more) a.place).at >>= (λ k. right_side (around xs depth more) a.change >>= (λ v. pure (k, v))))

-- Where no fault is noted in an operation the places of its formals are there behind all of its fields. And each that is still to get a value is there behind
-- another that got one.
abbrev pub FormalsAreThere : Type 0
FormalsAreThere =
    ((xs : List Item) (depth more : ℕ) (c : SceneOf xs) (o : Operation) → NoFault (operation_notes o c.known) →
    Ends (IsOutlined xs c) (λ fields all. AreThere fields all) (each (map (field_aim (around xs depth more)) (out-Operation o).fields)))
    × ((name : Name) (at : ℕ) (v : Value) (more : List Aim) → Ends (AreThere more) (λ u all. AreThere more all) (store name at v))
