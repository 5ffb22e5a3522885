-- Keyed stores that admit the same tuples have the same field.
use Rattle.std.proofs.Common.{◌≡◌, ℕ, zero, suc, ◌<◌, ◌≤◌, Bool, true, false, List, replicate, is_some, refl, sym, ◌∙◌, ap, arith, inl, inr}
use Rattle.std.specs.Prelude.{pos}
use Rattle.std.proofs.lemmas.Bool.{true≢false, cases_lt}
use Rattle.cl_keyed.specs.Keys.{key_at}
use Rattle.cl_value.specs.declared.value.Value.{Value}
use Rattle.cl_value.specs.declared.value.Value.TheVariants as values

-- whether a tuple has a key at a field
abbrev pub has_key_at : ℕ → List Value → Bool
has_key_at f = λ t. is_some (key_at f t)

-- a tuple of so many fields
abbrev zeros : ℕ → List Value
zeros n = replicate n (values.Int (pos 0))

-- it has a key at each of its fields
present : (i n : ℕ) → i < n → is_some (key_at i (zeros n)) ≡ true
present zero zero h = absurd (omega arith)
present (suc i) zero h = absurd (omega arith)
present zero (suc n) h = refl
present (suc i) (suc n) h = present i n (omega arith)

-- and none beyond them
absent : (i n : ℕ) → n ≤ i → is_some (key_at i (zeros n)) ≡ false
absent zero zero h = refl
absent (suc i) zero h = refl
absent zero (suc n) h = absurd (omega arith)
absent (suc i) (suc n) h = absent i n (omega arith)

-- a field isn't below another at which the same tuples have a key
not_below : (f g : ℕ) → f < g → has_key_at f ≡ has_key_at g → ⊥
not_below f g lt same =
    let here : is_some (key_at f (zeros g)) ≡ is_some (key_at g (zeros g)) = ap (λ (p : List Value → Bool). p (zeros g)) same in
    true≢false (sym (present f g lt) ∙ (here ∙ absent g g (omega arith)))

-- fields at which the same tuples have a key are the same
pub keyed_field : (f g : ℕ) → has_key_at f ≡ has_key_at g → f ≡ g
keyed_field f g same =
    elim (cases_lt f g) [
      | inl lt ↦ absurd (not_below f g lt same)
      | inr ge ↦ elim (cases_lt g f) [ inl gt ↦ absurd (not_below g f gt (sym same)) | inr le ↦ omega arith ]
    ]
