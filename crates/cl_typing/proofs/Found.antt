-- Variables of their types: what is found by a name, a change of it, a declaration, and scopes that are entered and left.
use Rattle.std.proofs.Common.{◌≡◌, ◌∙◌, ap, sym, subst, refl, ℕ, zero, suc, Bool, true, false, ◌||◌, List, [], ◌∷◌, ◌++◌, length, Option, Some, None, is_some, length-set}
use Rattle.std.specs.Prelude.{if◌then◌else◌, slice_get, slice_set, unwrap_or}
use Rattle.std.specs.List.{AllByRecursion, list_any}
use Rattle.cl_value.specs.declared.value.Value.{Value}
use Rattle.cl_ast.specs.declared.tree.TypeName.{TypeName}
use Rattle.cl_ast.specs.declared.tree.TypeName.TheVariants as types
use Rattle.cl_listing.specs.Names.{Name, same_name}
use Rattle.cl_meaning.specs.Operators.{zero_of}
use Rattle.cl_meaning.specs.Variables.{Variable, Scope, Variables, is_named, nowhere, in_scope, found_from, found, element, with_element, set_in, has, set_from, changed, declared_in, declared, without_innermost, entered, left}
use Rattle.cl_types.specs.declared.declared.Declared.{Declared}
use Rattle.cl_types.specs.declared.declared.Declared.TheVariants as declareds
use Rattle.cl_types.specs.declared.declared.Number.{Number}
use Rattle.cl_types.specs.Numbers.{number_type}
use Rattle.cl_types.specs.Declarations.{Declaration}
use Rattle.cl_typing.specs.Values.{IsOf, IsNumber}
use Rattle.cl_typing.specs.Standing.{FitsAs, FitsScope, FitsScopes, Fits, first_in, innermost, standing}

-- ---- what is found

-- a variable is what stands there, if anything does
abbrev pub FitsOr : Option Declared → Variable → Type 0
FitsOr None v = Unit {0}
FitsOr (Some what) v = FitsAs what v

by_test : (a b : Bool) (what : Declared) (outer inner : Option Declared) (v : Variable) (u w : Variable) → a ≡ b → FitsAs what v → FitsOr inner u → FitsOr (if a then Some what else inner) (if b then v else u)
by_test true true what outer inner v u w is h k = h
by_test true false what outer inner v u w is h k = absurd cc
by_test false true what outer inner v u w is h k = absurd cc
by_test false false what outer inner v u w is h k = k

pub first_found : (name : Name) (ds : List Declaration) (scope : Scope) (outer : Option Declared) (v : Variable) → FitsScope ds scope → FitsOr outer v → FitsOr (first_in name ds outer) (in_scope name scope v)
first_found name [] [] outer v h k = k
first_found name [] (w ∷ ws) outer v h k = absurd h
first_found name (d ∷ ds) [] outer v h k = absurd h
first_found name (d ∷ ds) (w ∷ ws) outer v h k =
    by_test (same_name name d.name) (is_named name w) d.what outer (first_in name ds outer) w (in_scope name ws v) v (ap (same_name name) (sym h.0)) h.1 (first_found name ds ws outer v h.2 k)

pub innermost_found : (name : Name) (dss : List (List Declaration)) (scopes : List Scope) (outer : Option Declared) (v : Variable) → FitsScopes dss scopes → FitsOr outer v → FitsOr (innermost name dss outer) (found_from name scopes v)
innermost_found name [] [] outer v h k = k
innermost_found name [] (w ∷ ws) outer v h k = absurd h
innermost_found name (d ∷ ds) [] outer v h k = absurd h
innermost_found name (ds ∷ dss) (scope ∷ scopes) outer v h k = innermost_found name dss scopes (first_in name ds outer) (in_scope name scope v) h.1 (first_found name ds scope outer v h.0 k)

pub stands_found : (name : Name) (globals : List Declaration) (locals : List (List Declaration)) (all : Variables) → Fits globals locals all → FitsOr (standing name globals locals) (found name all)
stands_found name globals locals all h = innermost_found name locals all.locals (first_in name globals None) (in_scope name all.globals nowhere) h.inside (first_found name globals all.globals None nowhere h.outside tt)

pub found_fits : (name : Name) (what : Declared) (globals : List Declaration) (locals : List (List Declaration)) (all : Variables) → standing name globals locals ≡ Some what → Fits globals locals all → FitsAs what (found name all)
found_fits name what globals locals all is h = subst (λ o. FitsOr o (found name all)) is (stands_found name globals locals all h)

-- ---- a change of what stands there

-- whatever change keeps a variable as it is declared, and its name
abbrev pub KeepsAs : Declared → (Variable → Variable) → Type 0
KeepsAs what change = (v : Variable) → FitsAs what v → FitsAs what (change v) × ((change v).name ≡ v.name)

set_by : (a b : Bool) (name : Name) (what : Declared) (d : Declaration) (ds : List Declaration) (v : Variable) (vs : Scope) (change : Variable → Variable) → a ≡ b → KeepsAs what change →
    (if a then Some d.what else first_in name ds None) ≡ Some what → v.name ≡ d.name → FitsAs d.what v → FitsScope ds vs → (first_in name ds None ≡ Some what → FitsScope ds (set_in name change vs)) →
    FitsScope (d ∷ ds) (if b then change v ∷ vs else v ∷ set_in name change vs)
set_by true true name what d ds v vs change same keeps is n f more rest =
    let here : d.what ≡ what = cc in
    let r = keeps v (subst (λ w. FitsAs w v) here f) in
    (r.1 ∙ n, subst (λ w. FitsAs w (change v)) (sym here) r.0, more)
set_by true false name what d ds v vs change same keeps is n f more rest = absurd cc
set_by false true name what d ds v vs change same keeps is n f more rest = absurd cc
set_by false false name what d ds v vs change same keeps is n f more rest = (n, f, rest is)

pub set_fits : (name : Name) (what : Declared) (ds : List Declaration) (scope : Scope) (change : Variable → Variable) → KeepsAs what change → first_in name ds None ≡ Some what → FitsScope ds scope → FitsScope ds (set_in name change scope)
set_fits name what [] scope change keeps is h = absurd cc
set_fits name what (d ∷ ds) [] change keeps is h = absurd h
set_fits name what (d ∷ ds) (v ∷ vs) change keeps is h =
    set_by (same_name name d.name) (is_named name v) name what d ds v vs change (ap (same_name name) (sym h.0)) keeps is h.0 h.1 h.2 (λ e. set_fits name what ds vs change keeps e h.2)

-- whether a scope has the name
has_by : (a b : Bool) (what : Declared) (inner : Option Declared) (c : Bool) → a ≡ b → is_some inner ≡ c → is_some (if a then Some what else inner) ≡ (b || c)
has_by true true what inner c same h = refl
has_by true false what inner c same h = absurd cc
has_by false true what inner c same h = absurd cc
has_by false false what inner c same h = h

pub has_first : (name : Name) (ds : List Declaration) (scope : Scope) → FitsScope ds scope → is_some (first_in name ds None) ≡ has name scope
has_first name [] [] h = refl
has_first name [] (v ∷ vs) h = absurd h
has_first name (d ∷ ds) [] h = absurd h
has_first name (d ∷ ds) (v ∷ vs) h = has_by (same_name name d.name) (is_named name v) d.what (first_in name ds None) (list_any (is_named name) vs) (ap (same_name name) (sym h.0)) (has_first name ds vs h.2)

-- ---- the innermost of a name

-- the one, or else the other
abbrev pub or_else : Option Declared → Option Declared → Option Declared
or_else None o = o
or_else (Some what) o = Some what

first_or : (name : Name) (ds : List Declaration) (outer : Option Declared) → first_in name ds outer ≡ or_else (first_in name ds None) outer
first_or name [] outer = refl
first_or name (d ∷ ds) outer = by (same_name name d.name) (first_or name ds outer)
  where
    by : (b : Bool) → first_in name ds outer ≡ or_else (first_in name ds None) outer → (if b then Some d.what else first_in name ds outer) ≡ or_else (if b then Some d.what else first_in name ds None) outer
    by true h = refl
    by false h = h

else_else : (a b c : Option Declared) → or_else a (or_else b c) ≡ or_else (or_else a b) c
else_else None b c = refl
else_else (Some what) b c = refl

pub innermost_or : (name : Name) (dss : List (List Declaration)) (outer : Option Declared) → innermost name dss outer ≡ or_else (innermost name dss None) outer
innermost_or name [] outer = refl
innermost_or name (ds ∷ dss) outer =
    innermost_or name dss (first_in name ds outer) ∙ (ap (or_else (innermost name dss None)) (first_or name ds outer)
    ∙ (else_else (innermost name dss None) (first_in name ds None) outer ∙ sym (ap (λ o. or_else o outer) (innermost_or name dss (first_in name ds None)))))

some_or : (a b : Option Declared) → is_some (or_else a b) ≡ (is_some b || is_some a)
some_or None None = refl
some_or None (Some b) = refl
some_or (Some a) None = refl
some_or (Some a) (Some b) = refl

pub has_innermost : (name : Name) (dss : List (List Declaration)) (scopes : List Scope) → FitsScopes dss scopes → is_some (innermost name dss None) ≡ list_any (has name) scopes
has_innermost name [] [] h = refl
has_innermost name [] (v ∷ vs) h = absurd h
has_innermost name (d ∷ ds) [] h = absurd h
has_innermost name (ds ∷ dss) (scope ∷ scopes) h =
    ap is_some (innermost_or name dss (first_in name ds None)) ∙ (some_or (innermost name dss None) (first_in name ds None)
    ∙ (ap (λ b. b || is_some (innermost name dss None)) (has_first name ds scope h.0) ∙ ap (λ b. has name scope || b) (has_innermost name dss scopes h.1)))

-- ---- a change by name

locals_set : (name : Name) (what : Declared) (dss : List (List Declaration)) (scopes : List Scope) (change : Variable → Variable) → KeepsAs what change → innermost name dss None ≡ Some what → FitsScopes dss scopes →
    FitsScopes dss (set_from name change scopes)
locals_set name what [] scopes change keeps is h = absurd cc
locals_set name what (ds ∷ dss) [] change keeps is h = absurd h
locals_set name what (ds ∷ dss) (scope ∷ scopes) change keeps is h = by (λ e. locals_set name what dss scopes change keeps e h.1) (innermost name dss None) refl (list_any (has name) scopes) (has_innermost name dss scopes h.1)
  where
    stands : innermost name dss (first_in name ds None) ≡ Some what
    stands = is

    by : (innermost name dss None ≡ Some what → FitsScopes dss (set_from name change scopes)) → (o : Option Declared) → innermost name dss None ≡ o → (b : Bool) → is_some (innermost name dss None) ≡ b → FitsScopes (ds ∷ dss) (if b then scope ∷ set_from name change scopes else set_in name change scope ∷ scopes)
    by more (Some w) e true same =
        let there : or_else (innermost name dss None) (first_in name ds None) ≡ Some what = sym (innermost_or name dss (first_in name ds None)) ∙ stands in
        let inner : innermost name dss None ≡ Some what = e ∙ (sym (ap (λ o. or_else o (first_in name ds None)) e) ∙ there) in
        (h.0, more inner)
    by more (Some w) e false same = let no : true ≡ false = sym (ap is_some e) ∙ same in absurd cc
    by more None e true same = let no : false ≡ true = sym (ap is_some e) ∙ same in absurd cc
    by more None e false same =
        let there : or_else (innermost name dss None) (first_in name ds None) ≡ Some what = sym (innermost_or name dss (first_in name ds None)) ∙ stands in
        (set_fits name what ds scope change keeps (sym (ap (λ o. or_else o (first_in name ds None)) e) ∙ there) h.0, h.1)

pub changed_fits : (name : Name) (what : Declared) (globals : List Declaration) (locals : List (List Declaration)) (all : Variables) (change : Variable → Variable) → KeepsAs what change → standing name globals locals ≡ Some what →
    Fits globals locals all → Fits globals locals (changed name change all)
changed_fits name what globals locals all change keeps is h = by (innermost name locals None) refl (list_any (has name) all.locals) (has_innermost name locals all.locals h.inside)
  where
    there : or_else (innermost name locals None) (first_in name globals None) ≡ Some what
    there = sym (innermost_or name locals (first_in name globals None)) ∙ is

    by : (o : Option Declared) → innermost name locals None ≡ o → (b : Bool) → is_some (innermost name locals None) ≡ b →
        Fits globals locals (if b then record all { locals = set_from name change all.locals } else record all { globals = set_in name change all.globals })
    by (Some w) e true same =
        let inner : innermost name locals None ≡ Some what = e ∙ (sym (ap (λ o. or_else o (first_in name globals None)) e) ∙ there) in
        record { outside = h.outside; inside = locals_set name what locals all.locals change keeps inner h.inside }
    by (Some w) e false same = let no : true ≡ false = sym (ap is_some e) ∙ same in absurd cc
    by None e true same = let no : false ≡ true = sym (ap is_some e) ∙ same in absurd cc
    by None e false same =
        record { outside = set_fits name what globals all.globals change keeps (sym (ap (λ o. or_else o (first_in name globals None)) e) ∙ there) h.outside; inside = h.inside }

-- ---- declarations, and scopes that are entered and left

pub scope_append : (ds : List Declaration) (scope : Scope) (d : Declaration) (v : Variable) → FitsScope ds scope → v.name ≡ d.name → FitsAs d.what v → FitsScope (ds ++ d ∷ []) (scope ++ v ∷ [])
scope_append [] [] d v h n f = (n, f, tt)
scope_append [] (w ∷ ws) d v h n f = absurd h
scope_append (e ∷ es) [] d v h n f = absurd h
scope_append (e ∷ es) (w ∷ ws) d v h n f = (h.0, h.1, scope_append es ws d v h.2 n f)

none_left : (dss : List (List Declaration)) (ds : List Declaration) → FitsScopes (dss ++ ds ∷ []) [] → ⊥
none_left [] ds h = h
none_left (e ∷ es) ds h = h

declares_in : (outer : List (List Declaration)) (inner : List Declaration) (scopes : List Scope) (d : Declaration) (v : Variable) → FitsScopes (outer ++ inner ∷ []) scopes → v.name ≡ d.name → FitsAs d.what v →
    FitsScopes (outer ++ (inner ++ d ∷ []) ∷ []) (declared_in v scopes)
declares_in [] inner [] d v h n f = absurd h
declares_in [] inner (scope ∷ []) d v h n f = (scope_append inner scope d v h.0 n f, tt)
declares_in [] inner (scope ∷ next ∷ more) d v h n f = absurd h.1
declares_in (o ∷ os) inner [] d v h n f = absurd h
declares_in (o ∷ os) inner (scope ∷ []) d v h n f = absurd (none_left os inner h.1)
declares_in (o ∷ os) inner (scope ∷ next ∷ more) d v h n f = (h.0, declares_in os inner (next ∷ more) d v h.1 n f)

pub declared_fits : (globals : List Declaration) (outer : List (List Declaration)) (inner : List Declaration) (all : Variables) (d : Declaration) (v : Variable) → Fits globals (outer ++ inner ∷ []) all → v.name ≡ d.name → FitsAs d.what v →
    Fits globals (outer ++ (inner ++ d ∷ []) ∷ []) (declared v all)
declared_fits globals outer inner all d v h n f = record { outside = h.outside; inside = declares_in outer inner all.locals d v h.inside n f }

enters : (dss : List (List Declaration)) (scopes : List Scope) → FitsScopes dss scopes → FitsScopes (dss ++ [] ∷ []) (scopes ++ [] ∷ [])
enters [] [] h = (tt, tt)
enters [] (w ∷ ws) h = absurd h
enters (e ∷ es) [] h = absurd h
enters (e ∷ es) (w ∷ ws) h = (h.0, enters es ws h.1)

pub entered_fits : (globals : List Declaration) (locals : List (List Declaration)) (all : Variables) → Fits globals locals all → Fits globals (locals ++ [] ∷ []) (entered all)
entered_fits globals locals all h = record { outside = h.outside; inside = enters locals all.locals h.inside }

leaves : (dss : List (List Declaration)) (ds : List Declaration) (scopes : List Scope) → FitsScopes (dss ++ ds ∷ []) scopes → FitsScopes dss (without_innermost scopes)
leaves [] ds [] h = absurd h
leaves [] ds (scope ∷ []) h = tt
leaves [] ds (scope ∷ next ∷ more) h = absurd h.1
leaves (e ∷ es) ds [] h = absurd h
leaves (e ∷ es) ds (scope ∷ []) h = absurd (none_left es ds h.1)
leaves (e ∷ es) ds (scope ∷ next ∷ more) h = (h.0, leaves es ds (next ∷ more) h.1)

pub left_fits : (globals : List Declaration) (locals : List (List Declaration)) (ds : List Declaration) (all : Variables) → Fits globals (locals ++ ds ∷ []) all → Fits globals locals (left all)
left_fits globals locals ds all h = record { outside = h.outside; inside = leaves locals ds all.locals h.inside }

-- ---- elements

pub zero_is : (t : TypeName) → IsOf t (zero_of t)
zero_is types.Int = refl
zero_is types.Long = refl
zero_is types.Char = refl

got : (P : Value → Type 0) (vs : List Value) (at : ℕ) (z : Value) → AllByRecursion P vs → P z → P (unwrap_or (slice_get vs at) z)
got P [] at z h k = k
got P (v ∷ vs) zero z h k = h.0
got P (v ∷ vs) (suc at) z h k = got P vs at z h.1 k

all_set : (P : Value → Type 0) (vs : List Value) (at : ℕ) (w : Value) → AllByRecursion P vs → P w → AllByRecursion P (slice_set vs at w)
all_set P [] at w h k = tt
all_set P (v ∷ vs) zero w h k = (k, h.1)
all_set P (v ∷ vs) (suc at) w h k = (h.0, all_set P vs at w h.1 k)

each_of : (n : Number) (vs : List Value) → AllByRecursion (IsNumber n) vs → AllByRecursion (IsOf (number_type n)) vs
each_of n [] h = tt
each_of n (v ∷ vs) h = (h.0.0, each_of n vs h.1)

pub element_is : (t : TypeName) (at : ℕ) (v : Variable) → v.of ≡ t → AllByRecursion (IsOf t) v.values → IsOf t (element at v)
element_is t at v is h = got (IsOf t) v.values at (zero_of v.of) h (subst (λ u. IsOf t (zero_of u)) (sym is) (zero_is t))

-- the only value of a constant
first_of_one : (n : Number) (vs : List Value) (z : Value) → length vs ≡ 1 → AllByRecursion (IsNumber n) vs → IsNumber n (unwrap_or (slice_get vs 0) z)
first_of_one n [] z one h = absurd cc
first_of_one n (v ∷ vs) z one h = h.0

pub constant_element : (n : Number) (v : Variable) → FitsAs (declareds.Constant n) v → IsNumber n (element 0 v)
constant_element n v h = first_of_one n v.values (zero_of v.of) h.1 h.2

pub scalar_keeps : (t : TypeName) (at : ℕ) (w : Value) → IsOf t w → KeepsAs (declareds.Scalar t) (with_element at w)
scalar_keeps t at w is v h = ((h.0, length-set v.values at w ∙ h.1, all_set (IsOf t) v.values at w h.2 is), refl)

pub array_keeps : (t : TypeName) (at : ℕ) (w : Value) → IsOf t w → KeepsAs (declareds.Array t) (with_element at w)
array_keeps t at w is v h = ((h.0, all_set (IsOf t) v.values at w h.1 is), refl)

pub constant_typed : (n : Number) (v : Variable) → FitsAs (declareds.Constant n) v → AllByRecursion (IsOf (number_type n)) v.values
constant_typed n v h = each_of n v.values h.2
