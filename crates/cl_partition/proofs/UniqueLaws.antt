-- Numbers by least site are told by which sites have the same.
use Rattle.std.proofs.Common.{◌≡◌, ℕ, suc, ◌+◌, ◌<◌, true, List, [], ◌∷◌, length, Some, refl, sym, ◌∙◌, ap, subst, arith, inl, inr}
use Rattle.std.proofs.lemmas.Bool.{cases_eq}
use Rattle.std.specs.Prelude.{slice_get, ◌↔◌}
use Rattle.cl_sig.specs.Numbers.{in_order}
use Rattle.cl_sig.proofs.Numbering.{in_order-new, old_parts}
use Rattle.cl_partition.specs.Unique.{PartitionsAreOne}

-- two sites have the same number in one list exactly where they have in the other
abbrev AreAlike : List ℕ → List ℕ → Type 0
AreAlike ns ms = (a b : ℕ) → a < length ns → b < length ns → (slice_get ns a ≡ slice_get ns b) ↔ (slice_get ms a ≡ slice_get ms b)

-- each number that came before stands at the same sites of both
abbrev KnowAlike : ℕ → List ℕ → List ℕ → Type 0
KnowAlike next ns ms = (k a : ℕ) → k < next → a < length ns → (slice_get ns a ≡ Some k) ↔ (slice_get ms a ≡ Some k)

rests_alike : (n m : ℕ) (ns ms : List ℕ) → AreAlike (n ∷ ns) (m ∷ ms) → AreAlike ns ms
rests_alike n m ns ms same a b ha hb = same (suc a) (suc b) (omega (arith, ha)) (omega (arith, hb))

rests_know : (next n m : ℕ) (ns ms : List ℕ) → KnowAlike next (n ∷ ns) (m ∷ ms) → KnowAlike next ns ms
rests_know next n m ns ms known k a hk ha = known k (suc a) hk (omega (arith, ha))

-- with the number at the front
rests_learn : (next : ℕ) (ns ms : List ℕ) → AreAlike (next ∷ ns) (next ∷ ms) → KnowAlike next (next ∷ ns) (next ∷ ms) → KnowAlike (next + 1) ns ms
rests_learn next ns ms same known k a hk ha =
    elim (cases_eq k next) [
      | inl e ↦
          let both = same (suc a) 0 (omega (arith, ha)) (omega arith) in
          (λ here. both.0 (here ∙ ap Some e) ∙ ap Some (sym e), λ here. both.1 (here ∙ ap Some e) ∙ ap Some (sym e))
      | inr d ↦ known k (suc a) (omega (arith, hk, d)) (omega (arith, ha))
    ]

same_Some : (a b : ℕ) → Some a ≡ Some b → a ≡ b
same_Some a b e = cc

one_from : (next : ℕ) (ns ms : List ℕ) → length ns ≡ length ms → in_order next ns ≡ true → in_order next ms ≡ true → AreAlike ns ms → KnowAlike next ns ms → ns ≡ ms
one_from next [] [] long order_n order_m same known = refl
one_from next [] (m ∷ ms) long order_n order_m same known = absurd (omega (arith, long))
one_from next (n ∷ ns) [] long order_n order_m same known = absurd (omega (arith, long))
one_from next (n ∷ ns) (m ∷ ms) long order_n order_m same known =
    elim (cases_eq n next) [
      | inl en ↦
          elim (cases_eq m next) [
            | inl em ↦
                let alike : AreAlike (next ∷ ns) (next ∷ ms) = subst (λ z. AreAlike (next ∷ ns) (z ∷ ms)) em (subst (λ z. AreAlike (z ∷ ns) (m ∷ ms)) en same) in
                let knows : KnowAlike next (next ∷ ns) (next ∷ ms) = subst (λ z. KnowAlike next (next ∷ ns) (z ∷ ms)) em (subst (λ z. KnowAlike next (z ∷ ns) (m ∷ ms)) en known) in
                let rest = one_from (next + 1) ns ms (omega (arith, long)) (sym (in_order-new next n ns en) ∙ order_n) (sym (in_order-new next m ms em) ∙ order_m) (rests_alike next next ns ms alike) (rests_learn next ns ms alike knows) in
                ap (λ z. z ∷ ns) (en ∙ sym em) ∙ ap (λ z. m ∷ z) rest
            | inr dm ↦
                let low = old_parts next m ms dm order_m in
                let same_front : n ≡ m = same_Some n m ((known m 0 low.0 (omega arith)).1 refl) in
                absurd (dm (sym same_front ∙ en))
          ]
      | inr dn ↦
          let low = old_parts next n ns dn order_n in
          let front : n ≡ m = sym (same_Some m n ((known n 0 low.0 (omega arith)).0 refl)) in
          let low_m = old_parts next m ms (λ e. dn (front ∙ e)) order_m in
          let rest = one_from next ns ms (omega (arith, long)) low.1 low_m.1 (rests_alike n m ns ms same) (rests_know next n m ns ms known) in
          ap (λ z. z ∷ ns) front ∙ ap (λ z. m ∷ z) rest
    ]

pub partitions_are_one : PartitionsAreOne
partitions_are_one sites ns ms one other =
    one_from 0 ns ms (one.all ∙ sym other.all) one.order other.order
    (λ a b ha hb.
    let la : a < length sites = omega (arith, ha, one.all) in
    let lb : b < length sites = omega (arith, hb, one.all) in
    let left = one.chains a b la lb in
    let right = other.chains a b la lb in
    (λ e. right.1 (left.0 e), λ e. left.1 (right.0 e)))
    (λ k a hk ha. absurd (omega (arith, hk)))
