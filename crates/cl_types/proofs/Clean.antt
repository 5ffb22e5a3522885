-- Notes without faults, and what they say of types.
use Rattle.std.proofs.Common.{◌≡◌, ◌+◌, ◌≤◌, refl, ℕ, suc, Bool, true, false, List, [], ◌∷◌, ◌++◌, Option, Some, None, arith}
use Rattle.std.specs.Prelude.{◌==◌, nat_lt, if◌then◌else◌}
use Rattle.cl_ast.specs.declared.tree.TypeName.{TypeName}
use Rattle.cl_ast.specs.declared.tree.TypeName.TheVariants as types
use Rattle.cl_ast.specs.declared.tree.Operator.{Operator}
use Rattle.cl_ast.specs.declared.statement.Item.{Item}
use Rattle.cl_types.specs.declared.context.Access.{Access}
use Rattle.cl_types.specs.declared.context.Purpose.{Purpose}
use Rattle.cl_types.specs.declared.context.Purpose.TheVariants as purposes
use Rattle.cl_types.specs.declared.declared.Declared.{Declared}
use Rattle.cl_types.specs.declared.declared.Declared.TheVariants as declareds
use Rattle.cl_types.specs.declared.declared.Number.{Number}
use Rattle.cl_types.specs.declared.fault.TypeKind.{TypeKind}
use Rattle.cl_types.specs.declared.fault.TypeKind.TheVariants as kinds
use Rattle.cl_types.specs.declared.fault.Fault.{Fault}
use Rattle.cl_types.specs.Notes.{Note, Found, Site, Function, found_all, faults_among}
use Rattle.cl_types.specs.Types.{common_of, is_arithmetic, operated, negated_type}
use Rattle.cl_types.specs.Faults.{comes_before, put, in_order}
use Rattle.cl_types.specs.Unit.{unit_notes, faults}
use Rattle.cl_types.specs.Expressions.{access_type, place_type, unless_typed, place_faults, called_type, value_faults, call_faults, width_faults}
use Rattle.cl_types.specs.Fields.{plain_form}
use Rattle.cl_types.specs.EachTyped.{IsFound, HasType}

-- no fault is noted
abbrev pub Clean : List Note → Type 0
Clean [] = Unit {0}
Clean (Found f ∷ ns) = ⊥
Clean (Site p ∷ ns) = Clean ns
Clean (Function p ∷ ns) = Clean ns

pub clean_split : (a b : List Note) → Clean (a ++ b) → Clean a × Clean b
clean_split [] b h = (tt, h)
clean_split (Found f ∷ a) b h = absurd h
clean_split (Site p ∷ a) b h = clean_split a b h
clean_split (Function p ∷ a) b h = clean_split a b h

pub none_found : (ks : List TypeKind) (place : ℕ) → Clean (found_all ks place) → ks ≡ []
none_found [] place h = refl
none_found (k ∷ ks) place h = absurd h

-- how many operations are noted
abbrev pub sites_in : List Note → ℕ
sites_in [] = 0
sites_in (Found f ∷ ns) = sites_in ns
sites_in (Site p ∷ ns) = suc (sites_in ns)
sites_in (Function p ∷ ns) = sites_in ns

pub sites_append : (a b : List Note) → sites_in (a ++ b) ≡ sites_in a + sites_in b
sites_append [] b = omega arith
sites_append (Found f ∷ a) b = sites_append a b
sites_append (Site p ∷ a) b = let more = sites_append a b in omega (arith, more)
sites_append (Function p ∷ a) b = sites_append a b

pub quiet_found : (ks : List TypeKind) (place : ℕ) → sites_in (found_all ks place) ≡ 0
quiet_found [] place = refl
quiet_found (k ∷ ks) place = quiet_found ks place

pub quiet_if : (b : Bool) (f : Fault) → sites_in (if b then Found f ∷ [] else []) ≡ 0
quiet_if true f = refl
quiet_if false f = refl

pub quiet_unless : (b : Bool) (f : Fault) → sites_in (if b then [] else Found f ∷ []) ≡ 0
quiet_unless true f = refl
quiet_unless false f = refl

-- ---- from a text without faults

not_empty : {A : Type 0} (x : A) (xs : List A) → x ∷ xs ≡ [] → ⊥
not_empty x xs h = cc

clean_if : (b : Bool) (f : Fault) (fs : List Fault) (ns : List Note) → (if b then f ∷ fs else fs) ≡ [] → (fs ≡ [] → Clean ns) → Clean ns
clean_if true f fs ns h rest = absurd (not_empty f fs h)
clean_if false f fs ns h rest = rest h

pub clean_among : (s f : ℕ) (ns : List Note) → faults_among s f ns ≡ [] → Clean ns
clean_among s f [] h = tt
clean_among s f (Found x ∷ ns) h = absurd (not_empty x (faults_among s f ns) h)
clean_among s f (Site p ∷ ns) h = clean_if (s == 1024) (record { place = p; kind = kinds.TooManySites }) (faults_among (s + 1) f ns) ns h (clean_among (s + 1) f ns)
clean_among s f (Function p ∷ ns) h = clean_if (f == 512) (record { place = p; kind = kinds.TooManyFunctions }) (faults_among s (f + 1) ns) ns h (clean_among s (f + 1) ns)

few_here : (s : ℕ) (x : Fault) (fs : List Fault) → s ≤ 1024 → (if s == 1024 then x ∷ fs else fs) ≡ [] → s + 1 ≤ 1024 × (fs ≡ [])
few_here s x fs few h = by (s == 1024) refl h
  where
    apart : (s == 1024) ≡ false → s + 1 ≤ 1024
    apart e = grind (arith, e, few)

    by : (b : Bool) → (s == 1024) ≡ b → (if b then x ∷ fs else fs) ≡ [] → s + 1 ≤ 1024 × (fs ≡ [])
    by true e g = absurd (not_empty x fs g)
    by false e g = (apart e, g)

few_skip : (b : Bool) (x : Fault) (fs : List Fault) → (if b then x ∷ fs else fs) ≡ [] → fs ≡ []
few_skip true x fs h = absurd (not_empty x fs h)
few_skip false x fs h = h

-- the operation behind 1,024 would be a fault
few_among : (s f : ℕ) (ns : List Note) → s ≤ 1024 → faults_among s f ns ≡ [] → s + sites_in ns ≤ 1024
few_among s f [] few h = omega (arith, few)
few_among s f (Found x ∷ ns) few h = absurd (not_empty x (faults_among s f ns) h)
few_among s f (Site p ∷ ns) few h =
    let r = few_here s (record { place = p; kind = kinds.TooManySites }) (faults_among (s + 1) f ns) few h in let more = few_among (s + 1) f ns r.0 r.1 in omega (arith, more)
few_among s f (Function p ∷ ns) few h = few_among s (f + 1) ns few (few_skip (f == 512) (record { place = p; kind = kinds.TooManyFunctions }) (faults_among s (f + 1) ns) h)

put_there : (f : Fault) (gs : List Fault) → put f gs ≡ [] → ⊥
put_there f [] h = not_empty f [] h
put_there f (g ∷ gs) h = by (comes_before f g) (comes_before g f) h
  where
    by : (b c : Bool) → (if b then f ∷ g ∷ gs else (if c then g ∷ put f gs else g ∷ gs)) ≡ [] → ⊥
    by true c h = not_empty f (g ∷ gs) h
    by false true h = not_empty g (put f gs) h
    by false false h = not_empty g gs h

none_in_order : (fs : List Fault) → in_order fs ≡ [] → fs ≡ []
none_in_order [] h = refl
none_in_order (f ∷ fs) h = absurd (put_there f (in_order fs) h)

pub clean_unit : (xs : List Item) → faults xs ≡ [] → Clean (unit_notes xs)
unfolding faults
clean_unit xs h = clean_among 0 0 (unit_notes xs) (none_in_order (faults_among 0 0 (unit_notes xs)) h)

pub few_unit : (xs : List Item) → faults xs ≡ [] → sites_in (unit_notes xs) ≤ 1024
unfolding faults
few_unit xs h = let few = few_among 0 0 (unit_notes xs) (omega arith) (none_in_order (faults_among 0 0 (unit_notes xs)) h) in omega (arith, few)

pub narrow_width : (n : ℕ) → width_faults n ≡ [] → n ≤ 16
narrow_width n h = by (nat_lt 16 n) refl h
  where
    most : nat_lt 16 n ≡ false → n ≤ 16
    most e = grind (arith, e)

    by : (b : Bool) → nat_lt 16 n ≡ b → (if b then kinds.WrongCount ∷ [] else []) ≡ [] → n ≤ 16
    by true e g = absurd (not_empty kinds.WrongCount [] g)
    by false e g = most e

-- ---- types that are found

unless_found : (t : Option TypeName) → unless_typed t ≡ [] → IsFound t
unless_found None h = absurd (not_empty kinds.WrongType [] h)
unless_found (Some t) h = tt

pub place_found : (access : Access) (i : Bool) (what : Option Declared) → place_faults access i what ≡ [] → IsFound (place_type access i what)
place_found access i None h = absurd (not_empty kinds.UnknownName [] h)
place_found access i (Some what) h = unless_found (access_type access i what) h

value_found : (t : Option TypeName) (ks : List TypeKind) → value_faults purposes.Value t ++ ks ≡ [] → IsFound t
value_found None ks h = absurd (not_empty kinds.WrongType ks h)
value_found (Some t) ks h = tt

called_found : (given : ℕ) (what : Option Declared) → call_faults purposes.Value given what ≡ [] → IsFound (called_type what)
called_found given None h = absurd (not_empty kinds.UnknownName [] h)
called_found given (Some (declareds.Scalar t)) h = absurd (not_empty kinds.WrongType [] h)
called_found given (Some (declareds.Array t)) h = absurd (not_empty kinds.WrongType [] h)
called_found given (Some (declareds.Constant n)) h = absurd (not_empty kinds.WrongType [] h)
called_found given (Some (declareds.Function f)) h = value_found f.result _ h

-- a call as a statement needs no type
abbrev pub Gives : Purpose → Option TypeName → Type 0
Gives purposes.Value t = IsFound t
Gives purposes.Statement t = Unit {0}

pub gives_found : (purpose : Purpose) (given : ℕ) (what : Option Declared) → call_faults purpose given what ≡ [] → Gives purpose (called_type what)
gives_found purposes.Value given what h = called_found given what h
gives_found purposes.Statement given what h = tt

common_found : (a b : Option TypeName) → IsFound a → IsFound b → IsFound (common_of a b)
common_found None b ha hb = ha
common_found (Some a) None ha hb = hb
common_found (Some a) (Some b) ha hb = tt

pub operated_found : (operator : Operator) (a b : Option TypeName) → IsFound a → IsFound b → IsFound (operated operator a b)
operated_found operator a b ha hb = by (is_arithmetic operator)
  where
    by : (c : Bool) → IsFound (if c then common_of a b else Some types.Int)
    by true = common_found a b ha hb
    by false = tt

pub negated_found : (t : Option TypeName) → IsFound t → IsFound (negated_type t)
negated_found None h = h
negated_found (Some t) h = tt

pub plain_typed : (n : Option Number) (t : Option TypeName) → IsFound t → HasType (plain_form n t)
plain_typed None t h = h
plain_typed (Some n) t h = tt
