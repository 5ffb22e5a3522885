-- Facts about the numbers of sets.
use Rattle.std.proofs.Common.{◌≡◌, ℕ, zero, suc, ◌+◌, ◌<◌, ◌≤◌, true, ◌&&◌, List, [], ◌∷◌, ◌++◌, Some, refl, arith, inl, inr, ltb, sym, ◌∙◌, ap}
use Rattle.std.proofs.lemmas.Bool.{ltb-true, and_parts, and_from, eq-eqb, ne_eqb, cases_eq, lt-ltb}
use Rattle.std.specs.Prelude.{slice_get}
use Rattle.cl_sig.specs.Numbers.{in_order, count_from}

-- the step of both where a number is the next new one
pub in_order-new : (next n : ℕ) (ns : List ℕ) → n ≡ next → in_order next (n ∷ ns) ≡ in_order (next + 1) ns
in_order-new next n ns e = rw (eq-eqb n next e) refl

pub count_from-new : (next n : ℕ) (ns : List ℕ) → n ≡ next → count_from next (n ∷ ns) ≡ count_from (next + 1) ns
count_from-new next n ns e = rw (eq-eqb n next e) refl

-- and where it isn't
pub in_order-old : (next n : ℕ) (ns : List ℕ) → (n ≡ next → ⊥) → in_order next (n ∷ ns) ≡ (ltb n next && in_order next ns)
in_order-old next n ns d = rw (ne_eqb n next d) refl

pub count_from-old : (next n : ℕ) (ns : List ℕ) → (n ≡ next → ⊥) → count_from next (n ∷ ns) ≡ count_from next ns
count_from-old next n ns d = rw (ne_eqb n next d) refl

-- the next new number never falls
pub count_from-above : (next : ℕ) (ns : List ℕ) → next ≤ count_from next ns
count_from-above next [] = omega arith
count_from-above next (n ∷ ns) =
    elim (cases_eq n next) [
      | inl e ↦ omega (arith, count_from-new next n ns e, count_from-above (next + 1) ns)
      | inr d ↦ omega (arith, count_from-old next n ns d, count_from-above next ns)
    ]

-- the parts of order where a number isn't new
pub old_parts : (next n : ℕ) (ns : List ℕ) → (n ≡ next → ⊥) → in_order next (n ∷ ns) ≡ true → (n < next) × (in_order next ns ≡ true)
old_parts next n ns d h =
    let both = and_parts (ltb n next) (in_order next ns) (sym (in_order-old next n ns d) ∙ h) in
    (ltb-true n next both.0, both.1)

-- each number is below the count
pub number_below : (next : ℕ) (ns : List ℕ) (i n : ℕ) → in_order next ns ≡ true → slice_get ns i ≡ Some n → n < count_from next ns
number_below next [] i n order here = absurd cc
number_below next (m ∷ ns) zero n order here =
    let same : m ≡ n = cc in
    elim (cases_eq m next) [
      | inl e ↦ omega (arith, count_from-new next m ns e, count_from-above (next + 1) ns)
      | inr d ↦
          let low = old_parts next m ns d order in
          omega (arith, low.0, count_from-old next m ns d, count_from-above next ns)
    ]
number_below next (m ∷ ns) (suc i) n order here =
    elim (cases_eq m next) [
      | inl e ↦
          let rest = number_below (next + 1) ns i n (sym (in_order-new next m ns e) ∙ order) here in
          omega (arith, rest, count_from-new next m ns e)
      | inr d ↦
          let low = old_parts next m ns d order in
          let rest = number_below next ns i n low.1 here in
          omega (arith, rest, count_from-old next m ns d)
    ]

-- one more number at the end, which came before or is the next new one
pub in_order-push : (next : ℕ) (ns : List ℕ) (n : ℕ) → in_order next ns ≡ true → n ≤ count_from next ns → in_order next (ns ++ n ∷ []) ≡ true
in_order-push next [] n order low =
    elim (cases_eq n next) [
      | inl e ↦ in_order-new next n [] e
      | inr d ↦ in_order-old next n [] d ∙ and_from (ltb n next) true (lt-ltb n next (omega arith)) refl
    ]
in_order-push next (m ∷ ns) n order low =
    elim (cases_eq m next) [
      | inl e ↦
          in_order-new next m (ns ++ n ∷ []) e ∙ in_order-push (next + 1) ns n (sym (in_order-new next m ns e) ∙ order) (omega (arith, count_from-new next m ns e))
      | inr d ↦
          let low_m = old_parts next m ns d order in
          in_order-old next m (ns ++ n ∷ []) d ∙ and_from (ltb m next) (in_order next (ns ++ n ∷ [])) (lt-ltb m next low_m.0) (in_order-push next ns n low_m.1 (omega (arith, count_from-old next m ns d)))
    ]

-- the count after the next new number, and after one that came before
pub count_from-push_new : (next : ℕ) (ns : List ℕ) (n : ℕ) → n ≡ count_from next ns → count_from next (ns ++ n ∷ []) ≡ n + 1
count_from-push_new next [] n e = count_from-new next n [] e ∙ ap (λ k. k + 1) (sym e)
count_from-push_new next (m ∷ ns) n e =
    elim (cases_eq m next) [
      | inl new ↦ count_from-new next m (ns ++ n ∷ []) new ∙ count_from-push_new (next + 1) ns n (e ∙ count_from-new next m ns new)
      | inr old ↦ count_from-old next m (ns ++ n ∷ []) old ∙ count_from-push_new next ns n (e ∙ count_from-old next m ns old)
    ]

pub count_from-push_old : (next : ℕ) (ns : List ℕ) (n : ℕ) → n < count_from next ns → count_from next (ns ++ n ∷ []) ≡ count_from next ns
count_from-push_old next [] n low = count_from-old next n [] (λ e. absurd (omega (arith, low, e)))
count_from-push_old next (m ∷ ns) n low =
    elim (cases_eq m next) [
      | inl new ↦
          count_from-new next m (ns ++ n ∷ []) new ∙ count_from-push_old (next + 1) ns n (omega (arith, count_from-new next m ns new)) ∙ sym (count_from-new next m ns new)
      | inr old ↦
          count_from-old next m (ns ++ n ∷ []) old ∙ count_from-push_old next ns n (omega (arith, count_from-old next m ns old)) ∙ sym (count_from-old next m ns old)
    ]
