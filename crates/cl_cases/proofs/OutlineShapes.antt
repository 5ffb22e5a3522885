-- Outlines of variables that are changed or declared, and of scopes that are entered and left.
use Rattle.std.proofs.Common.{◌≡◌, ◌∙◌, ap, sym, refl, ℕ, Bool, true, false, List, [], ◌∷◌, ◌++◌, map, length-set, append_assoc}
use Rattle.std.proofs.lemmas.List.{append-nil}
use Rattle.std.specs.Prelude.{if◌then◌else◌}
use Rattle.std.specs.List.{list_any}
use Rattle.cl_value.specs.declared.value.Value.{Value}
use Rattle.cl_listing.specs.Names.{Name}
use Rattle.cl_model.specs.Doing.{State}
use Rattle.cl_meaning.specs.Variables.{Variable, Scope, Variables, is_named, with_element, set_in, has, set_from, changed, declared_in, declared, without_innermost, entered, left, called_with, back_in}
use Rattle.cl_typing.specs.Standing.{Fits, FitsScopes}
use Rattle.cl_types.specs.Declarations.{Declaration}
use Rattle.cl_cases.specs.Outlines.{Shape, shape, shapes, Outline, outline, with_inside, Adds, HasInnermost}
use Rattle.cl_cases.proofs.OutlineSteps.{Quiet, Same, Grown, Returned}

-- ---- changes

abbrev pub KeepsShape : (Variable → Variable) → Type 0
KeepsShape change = (v : Variable) → shape (change v) ≡ shape v

pub element_kept : (at : ℕ) (w : Value) → KeepsShape (with_element at w)
element_kept at w v = ap (λ n. record { name = v.name; of = v.of; size = n }) (length-set v.values at w)

set_shapes : (name : Name) (change : Variable → Variable) → KeepsShape change → (scope : Scope) → shapes (set_in name change scope) ≡ shapes scope
set_shapes name change keeps [] = refl
set_shapes name change keeps (v ∷ vs) = by (is_named name v) (set_shapes name change keeps vs)
  where
    by : (b : Bool) → shapes (set_in name change vs) ≡ shapes vs → shapes (if b then change v ∷ vs else v ∷ set_in name change vs) ≡ shape v ∷ shapes vs
    by true more = ap (λ x. x ∷ shapes vs) (keeps v)
    by false more = ap (λ xs. shape v ∷ xs) more

set_from_shapes : (name : Name) (change : Variable → Variable) → KeepsShape change → (scopes : List Scope) → map shapes (set_from name change scopes) ≡ map shapes scopes
set_from_shapes name change keeps [] = refl
set_from_shapes name change keeps (scope ∷ inner) = by (list_any (has name) inner) (set_from_shapes name change keeps inner)
  where
    by : (b : Bool) → map shapes (set_from name change inner) ≡ map shapes inner → map shapes (if b then scope ∷ set_from name change inner else set_in name change scope ∷ inner) ≡ shapes scope ∷ map shapes inner
    by true more = ap (λ xs. shapes scope ∷ xs) more
    by false more = ap (λ x. x ∷ map shapes inner) (set_shapes name change keeps scope)

pub changed_outline : (name : Name) (change : Variable → Variable) → KeepsShape change → (all : Variables) → outline (changed name change all) ≡ outline all
changed_outline name change keeps all = by (list_any (has name) all.locals)
  where
    by : (b : Bool) → outline (if b then record all { locals = set_from name change all.locals } else record all { globals = set_in name change all.globals }) ≡ outline all
    by true = ap (λ xs. record { globals = shapes all.globals; locals = xs }) (set_from_shapes name change keeps all.locals)
    by false = ap (λ xs. record { globals = xs; locals = map shapes all.locals }) (set_shapes name change keeps all.globals)

-- ---- variables that were declared in the innermost scope

none_inside : (o : List (List Shape)) → with_inside [] o ≡ o
none_inside [] = refl
none_inside (scope ∷ []) = ap (λ x. x ∷ []) (append-nil scope)
none_inside (scope ∷ next ∷ inner) = ap (λ xs. scope ∷ xs) (none_inside (next ∷ inner))

twice_inside : (first second : List Shape) (o : List (List Shape)) → with_inside second (with_inside first o) ≡ with_inside (first ++ second) o
twice_inside first second [] = refl
twice_inside first second (scope ∷ []) = ap (λ x. x ∷ []) (append_assoc scope first second)
twice_inside first second (scope ∷ next ∷ []) = ap (λ x. scope ∷ x) (twice_inside first second (next ∷ []))
twice_inside first second (scope ∷ next ∷ third ∷ inner) = ap (λ x. scope ∷ x) (twice_inside first second (next ∷ third ∷ inner))

pub adds_none : (o p : Outline) → p ≡ o → Adds o p
adds_none o p is = record { globals = ap (λ (x : Outline). x.globals) is; more = []; locals = ap (λ (x : Outline). x.locals) is ∙ sym (none_inside o.locals) }

pub adds_twice : (o p q : Outline) → Adds o p → Adds p q → Adds o q
adds_twice o p q h k = record { globals = k.globals ∙ h.globals; more = h.more ++ k.more; locals = k.locals ∙ (ap (with_inside k.more) h.locals ∙ twice_inside h.more k.more o.locals) }

shapes_append : (scope : Scope) (v : Variable) → shapes (scope ++ v ∷ []) ≡ shapes scope ++ shape v ∷ []
shapes_append [] v = refl
shapes_append (w ∷ ws) v = ap (λ xs. shape w ∷ xs) (shapes_append ws v)

declared_shapes : (v : Variable) (scopes : List Scope) → map shapes (declared_in v scopes) ≡ with_inside (shape v ∷ []) (map shapes scopes)
declared_shapes v [] = refl
declared_shapes v (scope ∷ []) = ap (λ x. x ∷ []) (shapes_append scope v)
declared_shapes v (scope ∷ next ∷ inner) = ap (λ xs. shapes scope ∷ xs) (declared_shapes v (next ∷ inner))

pub declared_adds : (v : Variable) (all : Variables) → Adds (outline all) (outline (declared v all))
declared_adds v all = record { globals = refl; more = shape v ∷ []; locals = declared_shapes v all.locals }

-- ---- scopes that are entered and left

inside_behind : (more a x : List Shape) (o : List (List Shape)) → with_inside more (a ∷ (o ++ x ∷ [])) ≡ a ∷ with_inside more (o ++ x ∷ [])
inside_behind more a x [] = refl
inside_behind more a x (b ∷ o) = refl

some_inside : (more x : List Shape) (o : List (List Shape)) → [] ≡ with_inside more (o ++ x ∷ []) → ⊥
some_inside more x [] h = cc
some_inside more x (b ∷ o) h = let no = h ∙ inside_behind more b x o in cc

tail_is : {A : Type 0} (x y : A) (xs ys : List A) → x ∷ xs ≡ y ∷ ys → xs ≡ ys
tail_is x y xs ys h = cc

leaves : (o : List (List Shape)) (scopes : List Scope) (more x : List Shape) → map shapes scopes ≡ with_inside more (o ++ x ∷ []) → map shapes (without_innermost scopes) ≡ o
leaves [] [] more x h = absurd cc
leaves [] (scope ∷ []) more x h = refl
leaves [] (scope ∷ next ∷ inner) more x h = absurd cc
leaves (a ∷ o) [] more x h = absurd (some_inside more x (a ∷ o) h)
leaves (a ∷ o) (scope ∷ []) more x h = absurd (some_inside more x o (tail_is (shapes scope) a [] (with_inside more (o ++ x ∷ [])) (h ∙ inside_behind more a x o)))
leaves (a ∷ o) (scope ∷ next ∷ inner) more x h =
    let both : shapes scope ∷ map shapes (next ∷ inner) ≡ a ∷ with_inside more (o ++ x ∷ []) = h ∙ inside_behind more a x o in
    let first : shapes scope ≡ a = cc in
    ap (λ y. y ∷ map shapes (without_innermost (next ∷ inner))) first ∙ ap (λ ys. a ∷ ys) (leaves o (next ∷ inner) more x (tail_is (shapes scope) a (map shapes (next ∷ inner)) (with_inside more (o ++ x ∷ [])) both))

entered_shapes : (scopes : List Scope) → map shapes (scopes ++ [] ∷ []) ≡ map shapes scopes ++ [] ∷ []
entered_shapes [] = refl
entered_shapes (scope ∷ scopes) = ap (λ xs. shapes scope ∷ xs) (entered_shapes scopes)

-- a scope that was entered, in which variables were declared, and that is left
pub left_outline : (all inner : Variables) → Adds (outline (entered all)) (outline inner) → outline (left inner) ≡ outline all
left_outline all inner h =
    let locals : map shapes (without_innermost inner.locals) ≡ map shapes all.locals = leaves (map shapes all.locals) inner.locals h.more [] (h.locals ∙ ap (with_inside h.more) (entered_shapes all.locals)) in
    ap (λ xs. record { globals = xs; locals = map shapes (without_innermost inner.locals) }) h.globals ∙ ap (λ xs. record { globals = shapes all.globals; locals = xs }) locals

-- a function that goes on with its own locals
pub back_outline : (given : Scope) (all now : Variables) → Adds (outline (called_with given all)) (outline now) → outline (back_in all.locals now) ≡ outline all
back_outline given all now h = ap (λ xs. record { globals = xs; locals = map shapes all.locals }) h.globals

-- ---- the innermost scope

last_of : (scope : Scope) (more : List Scope) → (front : List Scope) × (inner : Scope) × (scope ∷ more ≡ front ++ inner ∷ [])
last_of scope [] = ([], scope, refl)
last_of scope (next ∷ more) = let r = last_of next more in (scope ∷ r.0, r.1, ap (λ xs. scope ∷ xs) r.2)

shapes_of : (front : List Scope) (inner : Scope) → map shapes (front ++ inner ∷ []) ≡ map shapes front ++ shapes inner ∷ []
shapes_of [] inner = refl
shapes_of (scope ∷ front) inner = ap (λ xs. shapes scope ∷ xs) (shapes_of front inner)

still_inside : (scopes : List Scope) (more x : List Shape) (o : List (List Shape)) → map shapes scopes ≡ with_inside more (o ++ x ∷ []) → (front : List Scope) × (inner : Scope) × (scopes ≡ front ++ inner ∷ [])
still_inside [] more x o h = absurd (some_inside more x o h)
still_inside (scope ∷ scopes) more x o h = last_of scope scopes

pub innermost_kept : (all now : Variables) → Adds (outline all) (outline now) → HasInnermost all → HasInnermost now
innermost_kept all now h k = still_inside now.locals h.more (shapes k.1) (map shapes k.0) (h.locals ∙ ap (with_inside h.more) (ap (map shapes) k.2 ∙ shapes_of k.0 k.1))

fits_inside : (outside : List (List Declaration)) (inner : List Declaration) (scopes : List Scope) → FitsScopes (outside ++ inner ∷ []) scopes → (front : List Scope) × (last : Scope) × (scopes ≡ front ++ last ∷ [])
fits_inside [] inner [] h = absurd h
fits_inside (o ∷ os) inner [] h = absurd h
fits_inside outside inner (scope ∷ scopes) h = last_of scope scopes

pub fits_innermost : (globals : List Declaration) (outside : List (List Declaration)) (inner : List Declaration) (all : Variables) → Fits globals (outside ++ inner ∷ []) all → HasInnermost all
fits_innermost globals outside inner all h = fits_inside outside inner all.locals h.inside

-- ---- relations of states

pub quiet_same : (s t : State Variables) → Quiet s t → Same s t
quiet_same s t h = (ap outline h.0, h.1)

pub same_same : (s t u : State Variables) → Same s t → Same t u → Same s u
same_same s t u h k = (k.0 ∙ h.0, k.1 ∙ h.1)

pub same_grown : (s t : State Variables) → Same s t → Grown s t
same_grown s t h = (adds_none (outline s.variables) (outline t.variables) h.0, h.1)

pub quiet_grown : (s t : State Variables) → Quiet s t → Grown s t
quiet_grown s t h = same_grown s t (quiet_same s t h)

pub grown_grown : (s t u : State Variables) → Grown s t → Grown t u → Grown s u
grown_grown s t u h k = (adds_twice (outline s.variables) (outline t.variables) (outline u.variables) h.0 k.0, k.1 ∙ h.1)

pub quiet_returned : (s t : State Variables) → Quiet s t → Returned s t
quiet_returned s t h = (quiet_same s t h, ap (λ (all : Variables). all.locals) h.0)

pub returned_returned : (s t u : State Variables) → Returned s t → Returned t u → Returned s u
returned_returned s t u h k = (same_same s t u h.0 k.0, k.1 ∙ h.1)
