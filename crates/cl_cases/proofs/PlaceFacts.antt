-- What is found by a name that is in a scope: outlines tell it, and a change by the name is a change of it.
use Rattle.std.proofs.Common.{◌≡◌, ◌∙◌, ap, sym, subst, refl, ℕ, zero, suc, ◌<◌, Bool, true, false, ◌||◌, List, [], ◌∷◌, ◌++◌, map, length, Option, Some, None, is_some, arith}
use Rattle.std.specs.Prelude.{if◌then◌else◌, slice_get, slice_set, unwrap_or}
use Rattle.std.specs.List.{list_any}
use Rattle.cl_value.specs.declared.value.Value.{Value}
use Rattle.cl_listing.specs.Names.{Name, same_name}
use Rattle.cl_meaning.specs.Operators.{zero_of}
use Rattle.cl_meaning.specs.Operations.{Aim, Holds, Fills}
use Rattle.cl_meaning.specs.Variables.{Variable, Scope, Variables, is_named, nowhere, in_scope, found_from, found, element, with_element, set_in, has, set_from, changed}
use Rattle.cl_types.specs.declared.declared.Declared.{Declared}
use Rattle.cl_types.specs.Declarations.{Declaration}
use Rattle.cl_typing.specs.Standing.{Fits, first_in, innermost, standing}
use Rattle.cl_typing.proofs.Found.{or_else, has_first, has_innermost, innermost_or}
use Rattle.cl_cases.specs.Outlines.{Shape, shape, shapes, Outline, outline}
use Rattle.cl_cases.specs.Places.{IsDeclared, IsThere, AreThere, WhatIsThereIsMet, OutlinesTellPlaces}

-- ---- outlines tell what is found

abbrev shape_named : Name → Shape → Bool
shape_named name x = same_name name x.name

abbrev shape_in : Name → List Shape → Shape → Shape
shape_in name [] other = other
shape_in name (x ∷ xs) other = if shape_named name x then x else shape_in name xs other

abbrev shape_from : Name → List (List Shape) → Shape → Shape
shape_from name [] other = other
shape_from name (scope ∷ inner) other = shape_from name inner (shape_in name scope other)

abbrev shape_found : Name → Outline → Shape
shape_found name o = shape_from name o.locals (shape_in name o.globals (shape nowhere))

in_shapes : (name : Name) (scope : Scope) (v : Variable) → shape (in_scope name scope v) ≡ shape_in name (shapes scope) (shape v)
in_shapes name [] v = refl
in_shapes name (w ∷ ws) v = by (is_named name w) (in_shapes name ws v)
  where
    by : (b : Bool) → shape (in_scope name ws v) ≡ shape_in name (shapes ws) (shape v) → shape (if b then w else in_scope name ws v) ≡ (if b then shape w else shape_in name (shapes ws) (shape v))
    by true h = refl
    by false h = h

from_shapes : (name : Name) (scopes : List Scope) (v : Variable) → shape (found_from name scopes v) ≡ shape_from name (map shapes scopes) (shape v)
from_shapes name [] v = refl
from_shapes name (scope ∷ inner) v = from_shapes name inner (in_scope name scope v) ∙ ap (shape_from name (map shapes inner)) (in_shapes name scope v)

found_shape : (name : Name) (all : Variables) → shape (found name all) ≡ shape_found name (outline all)
found_shape name all = from_shapes name all.locals (in_scope name all.globals nowhere) ∙ ap (shape_from name (map shapes all.locals)) (in_shapes name all.globals nowhere)

has_shape : (name : Name) (scope : Scope) → has name scope ≡ list_any (shape_named name) (shapes scope)
has_shape name [] = refl
has_shape name (v ∷ vs) = ap (λ b. is_named name v || b) (has_shape name vs)

have_shape : (name : Name) (scopes : List Scope) → list_any (has name) scopes ≡ list_any (λ xs. list_any (shape_named name) xs) (map shapes scopes)
have_shape name [] = refl
have_shape name (scope ∷ scopes) = ap (λ b. b || list_any (has name) scopes) (has_shape name scope) ∙ ap (λ b. list_any (shape_named name) (shapes scope) || b) (have_shape name scopes)

abbrev shape_declared : Name → Outline → Bool
shape_declared name o = list_any (λ xs. list_any (shape_named name) xs) (o.globals ∷ o.locals)

declared_shape : (name : Name) (all : Variables) → list_any (has name) (all.globals ∷ all.locals) ≡ shape_declared name (outline all)
declared_shape name all = have_shape name (all.globals ∷ all.locals)

pub still_declared : (name : Name) (all now : Variables) → outline now ≡ outline all → IsDeclared name all → IsDeclared name now
still_declared name all now is h = declared_shape name now ∙ (ap (shape_declared name) is ∙ (sym (declared_shape name all) ∙ h))

same_size : (name : Name) (all now : Variables) → outline now ≡ outline all → length (found name now).values ≡ length (found name all).values
same_size name all now is = ap (λ (x : Shape). x.size) (found_shape name now ∙ (ap (shape_found name) is ∙ sym (found_shape name all)))

pub still_there : (name : Name) (at : ℕ) (all now : Variables) → outline now ≡ outline all → IsThere name at all → IsThere name at now
still_there name at all now is h = (still_declared name all now is h.0, subst (λ n. at < n) (sym (same_size name all now is)) h.1)

pub all_there : (aims : List Aim) (all now : Variables) → outline now ≡ outline all → AreThere aims all → AreThere aims now
all_there [] all now is h = tt
all_there (Holds v ∷ more) all now is h = all_there more all now is h
all_there (Fills of name at ∷ more) all now is h = (still_there name at all now is h.0, all_there more all now is h.1)

pub there_append : (done more : List Aim) (all : Variables) → AreThere done all → AreThere more all → AreThere (done ++ more) all
there_append [] more all h k = k
there_append (Holds v ∷ done) more all h k = there_append done more all h k
there_append (Fills of name at ∷ done) more all h k = (h.0, there_append done more all h.1 k)

pub outlines_tell_places : OutlinesTellPlaces
outlines_tell_places name all now is = (still_declared name all now is, λ at h. still_there name at all now is h, λ aims h. all_there aims all now is h)

-- ---- a change by a name

module _ (name : Name) (change : Variable → Variable) (keeps : (v : Variable) → (change v).name ≡ v.name) where
  not_in : (scope : Scope) (o : Variable) → has name scope ≡ false → in_scope name scope o ≡ o
  not_in [] o h = refl
  not_in (v ∷ vs) o h = by (is_named name v) h (λ e. not_in vs o e)
    where
      by : (b : Bool) → (b || has name vs) ≡ false → (has name vs ≡ false → in_scope name vs o ≡ o) → (if b then v else in_scope name vs o) ≡ o
      by true e more = absurd cc
      by false e more = more e

  not_from : (scopes : List Scope) (o : Variable) → list_any (has name) scopes ≡ false → found_from name scopes o ≡ o
  not_from [] o h = refl
  not_from (scope ∷ inner) o h = by (has name scope) refl h (λ e. not_from inner (in_scope name scope o) e)
    where
      by : (b : Bool) → has name scope ≡ b → (b || list_any (has name) inner) ≡ false → (list_any (has name) inner ≡ false → found_from name inner (in_scope name scope o) ≡ in_scope name scope o) → found_from name inner (in_scope name scope o) ≡ o
      by true is e more = absurd cc
      by false is e more = more e ∙ not_in scope o is

  set_found : (scope : Scope) (o : Variable) → has name scope ≡ true → in_scope name (set_in name change scope) o ≡ change (in_scope name scope o)
  set_found [] o h = absurd cc
  set_found (v ∷ vs) o h = by (is_named name v) refl h (λ e. set_found vs o e)
    where
      -- a variable that is changed is found first
      first : (rest : Variable) (b : Bool) → same_name name (change v).name ≡ b → b ≡ true → (if b then change v else rest) ≡ change v
      first rest true is e = refl
      first rest false is e = absurd cc

      second : (rest : Variable) (b : Bool) → b ≡ false → (if b then v else rest) ≡ rest
      second rest true e = absurd cc
      second rest false e = refl

      by : (b : Bool) → is_named name v ≡ b → (b || has name vs) ≡ true → (has name vs ≡ true → in_scope name (set_in name change vs) o ≡ change (in_scope name vs o)) →
          in_scope name (if b then change v ∷ vs else v ∷ set_in name change vs) o ≡ change (if b then v else in_scope name vs o)
      by true is e more = first (in_scope name vs o) (same_name name (change v).name) refl (ap (same_name name) (keeps v) ∙ is)
      by false is e more = second (in_scope name (set_in name change vs) o) (is_named name v) is ∙ more e

  set_from_found : (scopes : List Scope) (o : Variable) → list_any (has name) scopes ≡ true → found_from name (set_from name change scopes) o ≡ change (found_from name scopes o)
  set_from_found [] o h = absurd cc
  set_from_found (scope ∷ inner) o h = by (list_any (has name) inner) refl (has name scope) refl h (λ e. set_from_found inner (in_scope name scope o) e)
    where
      by : (b : Bool) → list_any (has name) inner ≡ b → (c : Bool) → has name scope ≡ c → (c || b) ≡ true →
          (list_any (has name) inner ≡ true → found_from name (set_from name change inner) (in_scope name scope o) ≡ change (found_from name inner (in_scope name scope o))) → found_from name (if b then scope ∷ set_from name change inner else set_in name change scope ∷ inner) o ≡ change (found_from name inner (in_scope name scope o))
      by true is c here e more = more is
      by false is true here e more = not_from inner (in_scope name (set_in name change scope) o) is ∙ (set_found scope o here ∙ ap change (sym (not_from inner (in_scope name scope o) is)))
      by false is false here e more = absurd cc

  pub changed_found : (all : Variables) → IsDeclared name all → found name (changed name change all) ≡ change (found name all)
  changed_found all h = by (list_any (has name) all.locals) refl (has name all.globals) refl h
    where
      outer : Variable
      outer = in_scope name all.globals nowhere

      by : (b : Bool) → list_any (has name) all.locals ≡ b → (c : Bool) → has name all.globals ≡ c → (c || b) ≡ true →
          found name (if b then record all { locals = set_from name change all.locals } else record all { globals = set_in name change all.globals }) ≡ change (found_from name all.locals outer)
      by true is c here e = set_from_found all.locals outer is
      by false is true here e = not_from all.locals (in_scope name (set_in name change all.globals) nowhere) is ∙ (set_found all.globals nowhere here ∙ ap change (sym (not_from all.locals outer is)))
      by false is false here e = absurd cc

-- ---- what is found, whatever an unknown name stands for

same_in : (name : Name) (scope : Scope) (o other : Variable) → has name scope ≡ true → in_scope name scope o ≡ in_scope name scope other
same_in name [] o other h = absurd cc
same_in name (v ∷ vs) o other h = by (is_named name v) h (λ e. same_in name vs o other e)
  where
    by : (b : Bool) → (b || has name vs) ≡ true → (has name vs ≡ true → in_scope name vs o ≡ in_scope name vs other) → (if b then v else in_scope name vs o) ≡ (if b then v else in_scope name vs other)
    by true e more = refl
    by false e more = more e

same_from : (name : Name) (scopes : List Scope) (o other : Variable) → list_any (has name) scopes ≡ true → found_from name scopes o ≡ found_from name scopes other
same_from name [] o other h = absurd cc
same_from name (scope ∷ inner) o other h = by (has name scope) refl h (λ e. same_from name inner (in_scope name scope o) (in_scope name scope other) e)
  where
    by : (b : Bool) → has name scope ≡ b → (b || list_any (has name) inner) ≡ true → (list_any (has name) inner ≡ true → found_from name inner (in_scope name scope o) ≡ found_from name inner (in_scope name scope other)) →
        found_from name inner (in_scope name scope o) ≡ found_from name inner (in_scope name scope other)
    by true is e more = ap (found_from name inner) (same_in name scope o other is)
    by false is e more = more e

-- ---- what is stored is read

same_element : (vs : List Value) (at : ℕ) (y z : Value) → at < length vs → unwrap_or (slice_get vs at) y ≡ unwrap_or (slice_get vs at) z
same_element [] at y z h = absurd (omega (arith, h))
same_element (w ∷ ws) zero y z h = refl
same_element (w ∷ ws) (suc at) y z h = same_element ws at y z (omega (arith, h))

stored : (vs : List Value) (at : ℕ) (v z : Value) → at < length vs → unwrap_or (slice_get (slice_set vs at v) at) z ≡ v
stored [] at v z h = absurd (omega (arith, h))
stored (w ∷ ws) zero v z h = refl
stored (w ∷ ws) (suc at) v z h = stored ws at v z (omega (arith, h))

pub what_is_there_is_met : WhatIsThereIsMet
what_is_there_is_met name all = (
  λ h. (λ other. same_from name (all.globals ∷ all.locals) other nowhere h, λ change keeps. changed_found name change keeps all h),
  λ at h. (
    λ other. same_element (found name all).values at other (zero_of (found name all).of) h.1,
    λ v. ap (element at) (changed_found name (with_element at v) (λ w. refl) all h.0) ∙ stored (found name all).values at v (zero_of (found name all).of) h.1,
  ),
)

-- ---- what stands is in a scope

some_or : (a b : Option Declared) → is_some (or_else a b) ≡ (is_some b || is_some a)
some_or None None = refl
some_or None (Some b) = refl
some_or (Some a) None = refl
some_or (Some a) (Some b) = refl

pub stands_declared : (name : Name) (what : Declared) (globals : List Declaration) (locals : List (List Declaration)) (all : Variables) → standing name globals locals ≡ Some what → Fits globals locals all → IsDeclared name all
stands_declared name what globals locals all is h =
    let inner = innermost name locals None in
    let outer = first_in name globals None in
    let whole : is_some (or_else inner outer) ≡ true = ap is_some (sym (innermost_or name locals outer) ∙ is) in
    ap (λ b. b || list_any (has name) all.locals) (sym (has_first name globals all.globals h.outside)) ∙ (ap (λ b. is_some outer || b) (sym (has_innermost name locals all.locals h.inside)) ∙ (sym (some_or inner outer) ∙ whole))
