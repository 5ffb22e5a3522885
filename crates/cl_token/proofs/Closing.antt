-- A comment that ends holds no `*/`, and a list that begins so goes on so.
use Rattle.std.proofs.Common.{◌≡◌, ℕ, Bool, true, false, eqb, ◌&&◌, List, [], ◌∷◌, ◌++◌, Option, Some, refl, sym, ap, ◌∙◌, inl, inr}
use Rattle.std.proofs.lemmas.Bool.{eqb-true, cases_Bool, and_parts}
use Rattle.cl_ast.specs.Bytes.{begins_with}
use Rattle.cl_ast.specs.Pieces.{closes}
use Rattle.cl_ast.specs.Rows.{behind_first, after_close}
use Rattle.cl_token.proofs.Bounds.{chosen, true_is_false}

-- a front begins as the whole
pub begins_front : (p : ℕ → Bool) (xs ys : List ℕ) → begins_with p (xs ++ ys) ≡ false → begins_with p xs ≡ false
begins_front p [] ys e = refl
begins_front p (x ∷ xs) ys e = e

pub first_is : (byte : ℕ) (bytes : List ℕ) → begins_with (λ b. eqb b byte) bytes ≡ true → bytes ≡ byte ∷ behind_first bytes
first_is byte [] e = absurd (true_is_false (sym e))
first_is byte (b ∷ bytes) e = ap (λ (x : ℕ). x ∷ bytes) (eqb-true b byte e)

-- one more byte of a comment
pub closes_on : (byte : ℕ) (text more : List ℕ) → (eqb byte 42 && begins_with (λ b. eqb b 47) (text ++ more)) ≡ false → closes text ≡ false → closes (byte ∷ text) ≡ false
closes_on byte text more here none =
    elim (cases_Bool (eqb byte 42)) [
      | inl t ↦
          let ahead : begins_with (λ b. eqb b 47) (text ++ more) ≡ false = rw t at here in
          rw (t, begins_front (λ b. eqb b 47) text more ahead) none
      | inr f ↦ rw f none
    ]

-- the bytes of a comment up to its end
pub record IsClosed (bytes rest : List ℕ) : Type 0 where
  pub text : List ℕ
  pub whole : bytes ≡ text ++ 42 ∷ 47 ∷ rest
  pub none : closes text ≡ false

abbrev some_bytes : List ℕ → Option (List ℕ)
some_bytes x = Some x

some_same : (a b : List ℕ) → some_bytes a ≡ some_bytes b → a ≡ b
some_same a b e = cc

pub close_is : (bytes rest : List ℕ) → after_close bytes ≡ some_bytes rest → IsClosed bytes rest
close_is [] rest e = absurd cc
close_is (byte ∷ bytes) rest e =
    elim (chosen (eqb byte 42 && begins_with (λ b. eqb b 47) bytes) _ _ _ e) [
      | inl t ↦
          let both = and_parts (eqb byte 42) (begins_with (λ b. eqb b 47) bytes) t.0 in
          let tail : bytes ≡ 47 ∷ rest = first_is 47 bytes both.1 ∙ ap (λ (r : List ℕ). 47 ∷ r) (some_same (behind_first bytes) rest t.1) in
          record { text = []; whole = ap (λ (b : ℕ). b ∷ bytes) (eqb-true byte 42 both.0) ∙ ap (λ (r : List ℕ). 42 ∷ r) tail; none = refl }
      | inr f ↦
          let c : IsClosed bytes rest = close_is bytes rest f.1 in
          let here : (eqb byte 42 && begins_with (λ b. eqb b 47) (c.text ++ 42 ∷ 47 ∷ rest)) ≡ false = ap (λ (x : List ℕ). eqb byte 42 && begins_with (λ b. eqb b 47) x) (sym c.whole) ∙ f.0 in
          record { text = byte ∷ c.text; whole = ap (λ (x : List ℕ). byte ∷ x) c.whole; none = closes_on byte c.text (42 ∷ 47 ∷ rest) here c.none }
    ]
