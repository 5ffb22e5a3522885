-- A store can be made for the shape of each set.
use Rattle.std.proofs.Common.{◌≡◌, ℕ, suc, ◌+◌, ◌<◌, ◌≤◌, Bool, true, false, List, [], ◌∷◌, length, Some, get_or, refl, sym, ◌∙◌, ap, subst, arith, inl, inr}
use Rattle.std.proofs.lemmas.Bool.{and_from, and_parts, cases_eq, not-true, true≢false}
use Rattle.std.proofs.lemmas.List.Elements.{All-get_or}
use Rattle.std.proofs.lemmas.Option.{slice_get_within, slice_get-get_or}
use Rattle.std.specs.List.{list_all}
use Rattle.std.specs.Prelude.{slice_get, not, ◌&&◌}
use Rattle.cl_value.specs.Matching.{same_type}
use Rattle.cl_value.specs.declared.value.FieldType.{FieldType}
use Rattle.cl_value.specs.declared.value.FieldType.TheVariants as types
use Rattle.cl_sig.specs.Classes.{members, is_fixed, is_given, is_text, class}
use Rattle.cl_sig.specs.Numbers.{in_order, count_from}
use Rattle.cl_sig.specs.Partitions.{IsPartition}
use Rattle.cl_sig.specs.Shapes.{common}
use Rattle.cl_sig.specs.Signatures.{PlainSignature, mark_type}
use Rattle.cl_sig.specs.Storable.{is_number_mark, class_allows}
use Rattle.cl_sig.specs.Suits.{is_literal}
use Rattle.cl_sig.specs.declared.signature.Mark.{Mark}
use Rattle.cl_sig.specs.declared.signature.Mark.TheVariants as marks
use Rattle.cl_sig.specs.declared.shape.Class.{Class}
use Rattle.cl_sig.specs.declared.shape.Class.TheVariants as classes
use Rattle.cl_sig.proofs.Numbering.{in_order-new, count_from-new, count_from-old, old_parts}
use Rattle.cl_usage.specs.Laws.{IsOf, HasFields, ShapesAreStorable}
use Rattle.cl_usage.proofs.BesideLaws.{exists_at}
use Rattle.cl_usage.proofs.ClassLaws.{counter_fixed, keyed_key}
use Rattle.cl_usage.proofs.LawProofs.{arity_is, text_at}
use Rattle.cl_usage.proofs.Members.{first_exists}
use Rattle.cl_usage.proofs.SuitProofs.{Beside, Same, Typed, common_beside}

-- each number of a set is that of a site
set_exists : (next : ℕ) (ns : List ℕ) (n : ℕ) → in_order next ns ≡ true → next ≤ n → n < count_from next ns → (i : ℕ) × (slice_get ns i ≡ Some n)
set_exists next [] n order high low = absurd (omega (arith, high, low))
set_exists next (m ∷ ns) n order high low =
    elim (cases_eq m next) [
      | inl e ↦
          elim (cases_eq n next) [
            | inl here ↦ (0, ap Some (e ∙ sym here))
            | inr d ↦
                let later = set_exists (next + 1) ns n (sym (in_order-new next m ns e) ∙ order) (omega (arith, high, d)) (omega (arith, low, count_from-new next m ns e)) in
                (suc later.0, later.1)
          ]
      | inr old ↦
          let later = set_exists next ns n (old_parts next m ns old order).1 high (omega (arith, low, count_from-old next m ns old)) in
          (suc later.0, later.1)
    ]

-- a test that each item of a list passes at its place
all_at : {A : Type 0} (p : A → Bool) (xs : List A) → ((f : ℕ) (x : A) → slice_get xs f ≡ Some x → p x ≡ true) → list_all p xs ≡ true
all_at p [] each = refl
all_at p (x ∷ xs) each = and_from (p x) (list_all p xs) (each 0 x refl) (all_at p xs (λ f y h. each (suc f) y h))

-- a common field that all have alike is a literal
fixed_literal : (fixed : Bool) (mark c : Mark) → Beside fixed mark c → fixed ≡ true → is_literal c ≡ true
fixed_literal fixed mark _ (Same u e is) h = refl
fixed_literal fixed mark _ (Typed type e free) h = absurd (true≢false (sym h ∙ free))

-- one that isn't, and is no text, is a number or a character
number_type : (type : FieldType) → same_type type types.Text ≡ false → is_number_mark (Some (marks.Actual type)) ≡ true
number_type types.Int h = refl
number_type types.Long h = refl
number_type types.Char h = refl
number_type types.Text h = absurd cc

free_number : (fixed : Bool) (mark c : Mark) → Beside fixed mark c → fixed ≡ false → same_type (mark_type mark) types.Text ≡ false → is_number_mark (Some c) ≡ true
free_number fixed mark _ (Same u e is) h text = absurd (true≢false (sym is ∙ h))
free_number fixed mark _ (Typed type e free) h text = number_type type (ap (λ t. same_type t types.Text) (sym e) ∙ text)

-- the fields of a set, by a site of it
module _ (sites : List PlainSignature) (numbers : List ℕ) (set i : ℕ) (s : PlainSignature) (partition : IsPartition sites numbers) (of : IsOf sites numbers set i s) where
  counter_literals : class (members sites numbers set) ≡ classes.Counter → list_all is_literal (common (members sites numbers set)).fields ≡ true
  counter_literals is_class =
      let shared = common_beside sites numbers set i s partition of in
      all_at is_literal (common (members sites numbers set)).fields
      (λ f c at_c.
      let low : f < length s.fields = omega (arith, slice_get_within (common (members sites numbers set)).fields f c at_c, shared.long) in
      let own = exists_at s.fields f low in
      let near = shared.near f own.0 own.1 in
      let same : near.0 ≡ c =
      let both : Some near.0 ≡ Some c = sym near.1 ∙ at_c in
      cc in
      let fixed = counter_fixed (members sites numbers set) f is_class (omega (arith, low, arity_is sites numbers set i s partition of)) in
      subst (λ z. is_literal z ≡ true) same (fixed_literal (is_fixed (members sites numbers set) f) own.0 near.0 near.2 fixed))

  keyed_number : (f : ℕ) → class (members sites numbers set) ≡ classes.Keyed f → is_number_mark (slice_get (common (members sites numbers set)).fields f) ≡ true
  keyed_number f is_class =
      let first = first_exists sites numbers set i s of.here of.number in
      let shared = common_beside sites numbers set first.site first.first partition first.of in
      let key = keyed_key (members sites numbers set) f is_class in
      let both = and_parts (not (is_text (members sites numbers set) f) && not (is_fixed (members sites numbers set) f)) (is_given (members sites numbers set) f) key.1 in
      let parts = and_parts (not (is_text (members sites numbers set) f)) (not (is_fixed (members sites numbers set) f)) both.0 in
      let own = exists_at first.first.fields f (omega (arith, key.0, arity_is sites numbers set first.site first.first partition first.of)) in
      let near = shared.near f own.0 own.1 in
      let no_text = not-true (is_text (members sites numbers set) f) parts.0 in
      let free = not-true (is_fixed (members sites numbers set) f) parts.1 in
      ap is_number_mark near.1 ∙ free_number (is_fixed (members sites numbers set) f) own.0 near.0 near.2 free (sym (text_at (members sites numbers set) first.rest first.first f own.0 first.all own.1) ∙ no_text)

  allows : (k : Class) → class (members sites numbers set) ≡ k → class_allows k (common (members sites numbers set)).fields ≡ true
  allows classes.Counter e = counter_literals e
  allows (classes.Keyed f) e = keyed_number f e
  allows classes.Queue e = refl
  allows classes.List e = refl

pub shapes_are_storable : ShapesAreStorable
shapes_are_storable sites numbers partition fields set low =
    let site = set_exists 0 numbers set partition.order (omega arith) low in
    let within = slice_get_within numbers site.0 set site.1 in
    let none : PlainSignature = common [] in
    let s = get_or sites site.0 none in
    let of : IsOf sites numbers set site.0 s = record { here = slice_get-get_or sites site.0 none (omega (arith, within, partition.all)); number = site.1 } in
    let shared = common_beside sites numbers set site.0 s partition of in
    let own = All-get_or HasFields sites site.0 none (omega (arith, within, partition.all)) fields in
    record { some = omega (arith, own.some, shared.long); few = omega (arith, own.few, shared.long); class = allows sites numbers set site.0 s partition of (class (members sites numbers set)) refl }
