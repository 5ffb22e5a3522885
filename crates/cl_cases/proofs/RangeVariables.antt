-- Variables that are read, changed or declared, and scopes that are entered and left: all stay within the ranges of their types.
use Rattle.std.proofs.Common.{ℕ, zero, suc, Bool, true, false, List, [], ◌∷◌, ◌++◌}
use Rattle.std.specs.Prelude.{if◌then◌else◌, slice_get, slice_set, unwrap_or, replicate}
use Rattle.std.specs.List.{AllByRecursion, list_any}
use Rattle.cl_value.specs.declared.value.Value.{Value}
use Rattle.cl_listing.specs.Names.{Name}
use Rattle.cl_meaning.specs.Variables.{Variable, Scope, Variables, is_named, nowhere, in_scope, found_from, found, element, with_element, set_in, has, set_from, changed, declared_in, declared, without_innermost, entered, left, called_with, back_in}
use Rattle.cl_cases.specs.Ranges.{VariableWithin, ScopeWithin, AllWithin}
use Rattle.cl_value.specs.Ranges.{IsNumberWithin}
use Rattle.cl_cases.proofs.RangeNumbers.{zero_within}

-- ---- lists

pub all_append : {A : Type 0} (P : A → Type 0) (xs ys : List A) → AllByRecursion P xs → AllByRecursion P ys → AllByRecursion P (xs ++ ys)
all_append P [] ys h k = k
all_append P (x ∷ xs) ys h k = (h.0, all_append P xs ys h.1 k)

got : {A : Type 0} (P : A → Type 0) (vs : List A) (at : ℕ) (z : A) → AllByRecursion P vs → P z → P (unwrap_or (slice_get vs at) z)
got P [] at z h p = p
got P (v ∷ vs) zero z h p = h.0
got P (v ∷ vs) (suc at) z h p = got P vs at z h.1 p

all_set : {A : Type 0} (P : A → Type 0) (vs : List A) (at : ℕ) (w : A) → AllByRecursion P vs → P w → AllByRecursion P (slice_set vs at w)
all_set P [] at w h p = tt
all_set P (v ∷ vs) zero w h p = (p, h.1)
all_set P (v ∷ vs) (suc at) w h p = (h.0, all_set P vs at w h.1 p)

pub all_alike : {A : Type 0} (P : A → Type 0) (n : ℕ) (a : A) → P a → AllByRecursion P (replicate n a)
all_alike P zero a p = tt
all_alike P (suc n) a p = (p, all_alike P n a p)

-- ---- a variable is read

pub scope_within : (name : Name) (scope : Scope) (outer : Variable) → ScopeWithin scope → VariableWithin outer → VariableWithin (in_scope name scope outer)
scope_within name [] outer h o = o
scope_within name (v ∷ vs) outer h o = by (is_named name v) (scope_within name vs outer h.1 o)
  where
    by : (b : Bool) → VariableWithin (in_scope name vs outer) → VariableWithin (if b then v else in_scope name vs outer)
    by true more = h.0
    by false more = more

from_within : (name : Name) (scopes : List Scope) (outer : Variable) → AllByRecursion ScopeWithin scopes → VariableWithin outer → VariableWithin (found_from name scopes outer)
from_within name [] outer h o = o
from_within name (scope ∷ inner) outer h o = from_within name inner (in_scope name scope outer) h.1 (scope_within name scope outer h.0 o)

pub found_within : (name : Name) (all : Variables) → AllWithin all → VariableWithin (found name all)
found_within name all h = from_within name all.locals (in_scope name all.globals nowhere) h.locals (scope_within name all.globals nowhere h.globals tt)

pub element_within : (at : ℕ) (v : Variable) → VariableWithin v → IsNumberWithin (element at v)
element_within at v h = got IsNumberWithin v.values at _ h (zero_within v.of)

-- ---- a variable is changed

abbrev KeepsWithin : (Variable → Variable) → Type 0
KeepsWithin change = (v : Variable) → VariableWithin v → VariableWithin (change v)

element_keeps : (at : ℕ) (w : Value) → IsNumberWithin w → KeepsWithin (with_element at w)
element_keeps at w p v h = all_set IsNumberWithin v.values at w h p

set_within : (name : Name) (change : Variable → Variable) → KeepsWithin change → (scope : Scope) → ScopeWithin scope → ScopeWithin (set_in name change scope)
set_within name change keeps [] h = tt
set_within name change keeps (v ∷ vs) h = by (is_named name v) (set_within name change keeps vs h.1)
  where
    by : (b : Bool) → ScopeWithin (set_in name change vs) → ScopeWithin (if b then change v ∷ vs else v ∷ set_in name change vs)
    by true more = (keeps v h.0, h.1)
    by false more = (h.0, more)

set_from_within : (name : Name) (change : Variable → Variable) → KeepsWithin change → (scopes : List Scope) → AllByRecursion ScopeWithin scopes → AllByRecursion ScopeWithin (set_from name change scopes)
set_from_within name change keeps [] h = tt
set_from_within name change keeps (scope ∷ inner) h = by (list_any (has name) inner) (set_from_within name change keeps inner h.1)
  where
    by : (b : Bool) → AllByRecursion ScopeWithin (set_from name change inner) → AllByRecursion ScopeWithin (if b then scope ∷ set_from name change inner else set_in name change scope ∷ inner)
    by true more = (h.0, more)
    by false more = (set_within name change keeps scope h.0, h.1)

pub changed_within : (name : Name) (at : ℕ) (w : Value) (all : Variables) → IsNumberWithin w → AllWithin all → AllWithin (changed name (with_element at w) all)
changed_within name at w all p h = by (list_any (has name) all.locals)
  where
    by : (b : Bool) → AllWithin (if b then record all { locals = set_from name (with_element at w) all.locals } else record all { globals = set_in name (with_element at w) all.globals })
    by true = record { globals = h.globals; locals = set_from_within name (with_element at w) (element_keeps at w p) all.locals h.locals }
    by false = record { globals = set_within name (with_element at w) (element_keeps at w p) all.globals h.globals; locals = h.locals }

-- ---- scopes

declared_scopes : (v : Variable) (scopes : List Scope) → VariableWithin v → AllByRecursion ScopeWithin scopes → AllByRecursion ScopeWithin (declared_in v scopes)
declared_scopes v [] p h = tt
declared_scopes v (scope ∷ []) p h = (all_append VariableWithin scope (v ∷ []) h.0 (p, tt), tt)
declared_scopes v (scope ∷ next ∷ inner) p h = (h.0, declared_scopes v (next ∷ inner) p h.1)

pub declared_within : (v : Variable) (all : Variables) → VariableWithin v → AllWithin all → AllWithin (declared v all)
declared_within v all p h = record { globals = h.globals; locals = declared_scopes v all.locals p h.locals }

pub entered_within : (all : Variables) → AllWithin all → AllWithin (entered all)
entered_within all h = record { globals = h.globals; locals = all_append ScopeWithin all.locals ([] ∷ []) h.locals (tt, tt) }

without_within : (scopes : List Scope) → AllByRecursion ScopeWithin scopes → AllByRecursion ScopeWithin (without_innermost scopes)
without_within [] h = tt
without_within (scope ∷ []) h = tt
without_within (scope ∷ next ∷ inner) h = (h.0, without_within (next ∷ inner) h.1)

pub left_within : (all : Variables) → AllWithin all → AllWithin (left all)
left_within all h = record { globals = h.globals; locals = without_within all.locals h.locals }

pub called_within : (given : Scope) (all : Variables) → ScopeWithin given → AllWithin all → AllWithin (called_with given all)
called_within given all p h = record { globals = h.globals; locals = (p, tt) }

pub back_within : (before all : Variables) → AllWithin before → AllWithin all → AllWithin (back_in before.locals all)
back_within before all b h = record { globals = h.globals; locals = b.locals }
