-- Kinds of bytes that exclude one another.
use Rattle.std.proofs.Common.{◌≡◌, ℕ, ◌≤◌, ◌<◌, Bool, true, false, cond, eqb, leb, ◌||◌, refl, ◌⊎◌, inl, inr, arith}
use Rattle.std.proofs.lemmas.Bool.{eqb-true, leb-true, and_parts, or_cases, cases_Bool}
use Rattle.cl_ast.specs.Bytes.{is_between, is_separator, is_letter}

-- a choice that came out so
pub chosen : {A : Type 0} (b : Bool) (x y z : A) → cond b x y ≡ z → ((b ≡ true) × (x ≡ z)) ⊎ ((b ≡ false) × (y ≡ z))
chosen true x y z e = inl (refl, e)
chosen false x y z e = inr (refl, e)

pub true_is_false : ◌≡◌ {A = Bool} true false → ⊥
true_is_false e = cc

pub within : (low high byte : ℕ) → is_between low high byte ≡ true → (low ≤ byte) × (byte ≤ high)
within low high byte e = let both = and_parts (leb low byte) (leb byte high) e in (leb-true low byte both.0, leb-true byte high both.1)

-- a separator is at most 32
pub separator_bound : (byte : ℕ) → is_separator byte ≡ true → byte ≤ 32
separator_bound byte e =
    elim (or_cases (eqb byte 32) (is_between 9 13 byte) e) [
      | inl a ↦ omega (arith, eqb-true byte 32 a)
      | inr b ↦ omega (arith, within 9 13 byte b)
    ]

pub no_separator : (byte : ℕ) → 33 ≤ byte → is_separator byte ≡ false
no_separator byte h = elim (cases_Bool (is_separator byte)) [ inl t ↦ absurd (omega (arith, separator_bound byte t)) | inr f ↦ f ]

-- a letter or `_` is at least 65
pub letter_bound : (byte : ℕ) → is_letter byte ≡ true → 65 ≤ byte
letter_bound byte e =
    elim (or_cases (is_between 65 90 byte) (is_between 97 122 byte || eqb byte 95) e) [
      | inl a ↦ (within 65 90 byte a).0
      | inr r ↦
          elim (or_cases (is_between 97 122 byte) (eqb byte 95) r) [
            | inl b ↦ omega (arith, within 97 122 byte b)
            | inr u ↦ omega (arith, eqb-true byte 95 u)
          ]
    ]

pub no_letter : (byte : ℕ) → byte < 65 → is_letter byte ≡ false
no_letter byte h = elim (cases_Bool (is_letter byte)) [ inl t ↦ absurd (omega (arith, letter_bound byte t)) | inr f ↦ f ]
