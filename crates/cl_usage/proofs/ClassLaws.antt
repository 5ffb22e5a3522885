-- What a class tells of the fields of its sites.
use Rattle.std.proofs.Common.{◌≡◌, ℕ, zero, suc, ◌<◌, Bool, true, false, List, [], ◌∷◌, Option, Some, None, refl, sym, ◌∙◌, ap, subst, arith, inl, inr}
use Rattle.std.proofs.lemmas.Bool.{and_parts, cases_Bool, cases_eq, or_cases}
use Rattle.std.specs.List.{list_all}
use Rattle.std.specs.Prelude.{slice_get, ◌⊎◌, ◌||◌, if◌then◌else◌, is_some}
use Rattle.cl_value.specs.declared.value.Value.{Value}
use Rattle.cl_sig.specs.Classes.{is_constant, has_constant, literal_of, shared_by, constant_at, is_fixed, is_received, is_key, arity, keyed_or_list, class}
use Rattle.cl_sig.specs.Fields.{all_below, first_below, or_else}
use Rattle.cl_sig.specs.Signatures.{PlainSignature}
use Rattle.cl_sig.specs.declared.signature.Mark.{Mark}
use Rattle.cl_sig.specs.declared.signature.Mark.TheVariants as marks
use Rattle.cl_sig.specs.declared.shape.Class.{Class}
use Rattle.cl_sig.specs.declared.shape.Class.TheVariants as classes
use Rattle.cl_sig.proofs.MatchLaws.{same_value-true}

pub all_below-at : (n f : ℕ) (test : ℕ → Bool) → all_below n test ≡ true → f < n → test f ≡ true
all_below-at zero f test all low = absurd (omega arith)
all_below-at (suc n) f test all low =
    let both = and_parts (all_below n test) (test n) all in
    elim (cases_eq f n) [
      | inl e ↦ subst (λ k. test k ≡ true) (sym e) both.1
      | inr d ↦ all_below-at n f test both.0 (omega arith)
    ]

pub or_else_cases : (o : Option ℕ) (b : Bool) (n f : ℕ) → or_else o (if b then Some n else None) ≡ Some f → (o ≡ Some f) ⊎ ((b ≡ true) × (n ≡ f))
or_else_cases (Some k) b n f h = inl h
or_else_cases None true n f h =
    let same : n ≡ f = cc in
    inr (refl, same)
or_else_cases None false n f h = absurd cc

-- the first that passes is below the count, and passes
pub first_below-is : (n f : ℕ) (test : ℕ → Bool) → first_below n test ≡ Some f → (f < n) × (test f ≡ true)
first_below-is zero f test h = absurd cc
first_below-is (suc n) f test h =
    elim (or_else_cases (first_below n test) (test n) n f h) [
      | inl before ↦
          let rest = first_below-is n f test before in
          (omega (arith, rest.0), rest.1)
      | inr here ↦ (omega (arith, here.1), subst (λ j. test j ≡ true) here.1 here.0)
    ]

-- the class by its three conditions
abbrev pub class_by : Bool → Bool → Option ℕ → Class
class_by a b k = if a then classes.Counter else (if b then classes.Queue else keyed_or_list k)

pub by_counter : (a b : Bool) (k : Option ℕ) → class_by a b k ≡ classes.Counter → a ≡ true
by_counter true b k h = refl
by_counter false true k h = absurd cc
by_counter false false (Some f) h = absurd cc
by_counter false false None h = absurd cc

pub by_queue : (a b : Bool) (k : Option ℕ) → class_by a b k ≡ classes.Queue → b ≡ true
by_queue true b k h = absurd cc
by_queue false true k h = refl
by_queue false false (Some f) h = absurd cc
by_queue false false None h = absurd cc

pub by_keyed : (a b : Bool) (k : Option ℕ) (f : ℕ) → class_by a b k ≡ classes.Keyed f → k ≡ Some f
by_keyed true b k f h = absurd cc
by_keyed false true k f h = absurd cc
by_keyed false false (Some g) f h = cc
by_keyed false false None f h = absurd cc

abbrev pub free : List PlainSignature → ℕ → Bool
free all f = is_fixed all f || is_received all f

pub counter_fixed : (all : List PlainSignature) (f : ℕ) → class all ≡ classes.Counter → f < arity all → is_fixed all f ≡ true
counter_fixed all f h low =
    all_below-at (arity all) f (is_fixed all) (by_counter (all_below (arity all) (is_fixed all)) (all_below (arity all) (free all)) (first_below (arity all) (is_key all)) h) low

pub queue_free : (all : List PlainSignature) (f : ℕ) → class all ≡ classes.Queue → f < arity all → (is_fixed all f ≡ true) ⊎ (is_received all f ≡ true)
queue_free all f h low =
    or_cases (is_fixed all f) (is_received all f)
    (all_below-at (arity all) f (free all) (by_queue (all_below (arity all) (is_fixed all)) (all_below (arity all) (free all)) (first_below (arity all) (is_key all)) h) low)

pub keyed_key : (all : List PlainSignature) (f : ℕ) → class all ≡ classes.Keyed f → (f < arity all) × (is_key all f ≡ true)
keyed_key all f h =
    first_below-is (arity all) f (is_key all) (by_keyed (all_below (arity all) (is_fixed all)) (all_below (arity all) (free all)) (first_below (arity all) (is_key all)) f h)

-- a literal that all share
pub shared-all : (f : ℕ) (all : List PlainSignature) (o : Option Value) (u : Value) → shared_by f all o ≡ Some u → list_all (has_constant f u) all ≡ true
shared-all f all None u h = absurd cc
shared-all f all (Some v) u h =
    elim (cases_Bool (list_all (has_constant f v) all)) [
      | inl y ↦
          let same : Some v ≡ Some u = ap (λ b. if b then Some v else None) (sym y) ∙ h in
          let value : v ≡ u = cc in
          subst (λ z. list_all (has_constant f z) all ≡ true) value y
      | inr n ↦
          let none : None ≡ Some u = ap (λ b. if b then Some v else None) (sym n) ∙ h in
          absurd cc
    ]

pub constant-all : (f : ℕ) (all : List PlainSignature) (u : Value) → constant_at f all ≡ Some u → list_all (has_constant f u) all ≡ true
constant-all f [] u h = absurd cc
constant-all f (s ∷ all) u h = shared-all f (s ∷ all) (literal_of (slice_get s.fields f)) u h

pub constant_is : (u : Value) (mark : Mark) → is_constant u mark ≡ true → mark ≡ marks.Constant u
constant_is u (marks.Constant w) h = ap marks.Constant (sym (same_value-true u w h))
constant_is u (marks.Actual type) h = absurd cc
constant_is u (marks.Formal type) h = absurd cc

pub some_is : (o : Option Value) → is_some o ≡ true → (u : Value) × (o ≡ Some u)
some_is (Some u) h = (u, refl)
some_is None h = absurd cc
