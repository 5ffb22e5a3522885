-- The sites of a set: each has the types of the first.
use Rattle.std.proofs.Common.{◌≡◌, ℕ, zero, suc, Bool, true, ◌&&◌, not, List, [], ◌∷◌, map, Some, refl, sym, ◌∙◌, ap, subst, inl, inr}
use Rattle.std.proofs.lemmas.Bool.{and_parts, cases_Bool, cases_eq, eq-eqb, ne_eqb}
use Rattle.std.proofs.lemmas.Option.{slice_get_within}
use Rattle.std.specs.List.{list_all}
use Rattle.std.specs.Prelude.{slice_get, if◌then◌else◌}
use Rattle.cl_sig.specs.Beside.{all_beside}
use Rattle.cl_sig.specs.Chains.{may_pair, Leads}
use Rattle.cl_sig.specs.Classes.{members}
use Rattle.cl_sig.specs.Partitions.{IsPartition}
use Rattle.cl_sig.specs.Signatures.{PlainSignature, is_producer, may_match, may_meet, mark_type, differ}
use Rattle.cl_sig.specs.declared.signature.Mark.{Mark}
use Rattle.cl_value.specs.Matching.{same_type}
use Rattle.cl_sig.proofs.ChainLaws.{neighbours_exist}
use Rattle.cl_sig.proofs.MatchLaws.{same_type-true}
use Rattle.cl_usage.specs.Laws.{IsOf}

pub members-yes : (s : PlainSignature) (sites : List PlainSignature) (n : ℕ) (numbers : List ℕ) (set : ℕ) → n ≡ set → members (s ∷ sites) (n ∷ numbers) set ≡ s ∷ members sites numbers set
members-yes s sites n numbers set e = rw (eq-eqb n set e) refl

pub members-no : (s : PlainSignature) (sites : List PlainSignature) (n : ℕ) (numbers : List ℕ) (set : ℕ) → (n ≡ set → ⊥) → members (s ∷ sites) (n ∷ numbers) set ≡ members sites numbers set
members-no s sites n numbers set d = rw (ne_eqb n set d) refl

-- what holds of all members holds of each site of the set
pub member_passes : (p : PlainSignature → Bool) (sites : List PlainSignature) (numbers : List ℕ) (set i : ℕ) (s : PlainSignature) → list_all p (members sites numbers set) ≡ true → slice_get sites i ≡ Some s → slice_get numbers i ≡ Some set → p s ≡ true
member_passes p [] numbers set i s all e n = absurd cc
member_passes p (x ∷ sites) [] set i s all e n = absurd cc
member_passes p (x ∷ sites) (k ∷ numbers) set zero s all e n =
    let same : x ≡ s = cc in
    let number : k ≡ set = cc in
    let both = and_parts (p x) (list_all p (members sites numbers set)) (ap (list_all p) (sym (members-yes x sites k numbers set number)) ∙ all) in
    subst (λ z. p z ≡ true) same both.0
member_passes p (x ∷ sites) (k ∷ numbers) set (suc i) s all e n =
    elim (cases_eq k set) [
      | inl y ↦
          let both = and_parts (p x) (list_all p (members sites numbers set)) (ap (list_all p) (sym (members-yes x sites k numbers set y)) ∙ all) in
          member_passes p sites numbers set i s both.1 e n
      | inr d ↦ member_passes p sites numbers set i s (ap (list_all p) (sym (members-no x sites k numbers set d)) ∙ all) e n
    ]

-- where a site is of the set there is a first one, which is of the set
pub record First (sites : List PlainSignature) (numbers : List ℕ) (set : ℕ) : Type 0 where
  pub site : ℕ
  pub first : PlainSignature
  pub rest : List PlainSignature
  pub all : members sites numbers set ≡ first ∷ rest
  pub of : IsOf sites numbers set site first

pub first_exists : (sites : List PlainSignature) (numbers : List ℕ) (set i : ℕ) (s : PlainSignature) → slice_get sites i ≡ Some s → slice_get numbers i ≡ Some set → First sites numbers set
first_exists [] numbers set i s e n = absurd cc
first_exists (x ∷ sites) [] set i s e n = absurd cc
first_exists (x ∷ sites) (k ∷ numbers) set zero s e n =
    let number : k ≡ set = cc in
    record { site = 0; first = x; rest = members sites numbers set; all = members-yes x sites k numbers set number; of = record { here = refl; number = ap Some number } }
first_exists (x ∷ sites) (k ∷ numbers) set (suc i) s e n =
    elim (cases_eq k set) [
      | inl y ↦
          record { site = 0; first = x; rest = members sites numbers set; all = members-yes x sites k numbers set y; of = record { here = refl; number = ap Some y } }
      | inr d ↦
          let later = first_exists sites numbers set i s e n in
          record {
            site = suc later.site;
            first = later.first;
            rest = later.rest;
            all = members-no x sites k numbers set d ∙ later.all;
            of = record { here = later.of.here; number = later.of.number };
          }
    ]

-- marks that may meet have one type
pub meet_types : (ps cs : List Mark) → all_beside may_meet ps cs ≡ true → map mark_type ps ≡ map mark_type cs
meet_types [] [] h = refl
meet_types [] (c ∷ cs) h = absurd cc
meet_types (p ∷ ps) [] h = absurd cc
meet_types (p ∷ ps) (c ∷ cs) h =
    let both = and_parts (may_meet p c) (all_beside may_meet ps cs) h in
    let types = and_parts (same_type (mark_type p) (mark_type c)) (not (differ p c)) both.0 in
    let head : mark_type p ≡ mark_type c = same_type-true (mark_type p) (mark_type c) types.0 in
    let tail : map mark_type ps ≡ map mark_type cs = meet_types ps cs both.1 in
    ap (λ x. x ∷ map mark_type ps) head ∙ ap (λ xs. mark_type c ∷ xs) tail

pub pair_types : (x y : PlainSignature) → may_pair x y ≡ true → map mark_type x.fields ≡ map mark_type y.fields
pair_types x y h =
    elim (cases_Bool (is_producer x.kind)) [
      | inl p ↦
          let either : (not (is_producer y.kind) && may_match x y) ≡ true = ap (λ b. if b then not (is_producer y.kind) && may_match x y else is_producer y.kind && may_match y x) (sym p) ∙ h in
          meet_types x.fields y.fields (and_parts (not (is_producer y.kind)) (may_match x y) either).1
      | inr c ↦
          let either : (is_producer y.kind && may_match y x) ≡ true = ap (λ b. if b then not (is_producer y.kind) && may_match x y else is_producer y.kind && may_match y x) (sym c) ∙ h in
          sym (meet_types y.fields x.fields (and_parts (is_producer y.kind) (may_match y x) either).1)
    ]

pub leads_types : (sites : List PlainSignature) (a b : ℕ) (path : List ℕ) (x y : PlainSignature) → Leads sites a path b → slice_get sites a ≡ Some x → slice_get sites b ≡ Some y → map mark_type x.fields ≡ map mark_type y.fields
leads_types sites a b [] x y e ea eb =
    let at_b : slice_get sites a ≡ Some y = ap (slice_get sites) e ∙ eb in
    let same : x ≡ y = cc in
    ap (λ s. map mark_type s.fields) same
leads_types sites a b (c ∷ path) x y h ea eb =
    let near = neighbours_exist sites a c h.0 in
    let same : near.0 ≡ x = cc in
    ap (λ s. map mark_type s.fields) (sym same) ∙ pair_types near.0 near.1 near.4 ∙ leads_types sites c b path near.1 y h.1 near.3 eb

-- two sites of a set have the same types
pub set_types : (sites : List PlainSignature) (numbers : List ℕ) (set a b : ℕ) (x y : PlainSignature) → IsPartition sites numbers → IsOf sites numbers set a x → IsOf sites numbers set b y → map mark_type x.fields ≡ map mark_type y.fields
set_types sites numbers set a b x y partition ha hb =
    let chain = (partition.chains a b (slice_get_within sites a x ha.here) (slice_get_within sites b y hb.here)).0 (ha.number ∙ sym hb.number) in
    leads_types sites a b chain.0 x y chain.1 ha.here hb.here
