-- The characters of a string, one after another.
use Rattle.std.proofs.Common.{◌≡◌, ℕ, eqb, ◌&&◌, List, [], ◌∷◌, ◌++◌, map, Option, Some, None, refl, sym, ap, ◌∙◌, inl, inr, append_assoc}
use Rattle.std.proofs.lemmas.Bool.{cases_Bool}
use Rattle.cl_ast.specs.Bytes.{is_string_byte, is_escape, escape_byte}
use Rattle.cl_ast.specs.Lexemes.{character_meaning}
use Rattle.cl_ast.specs.Rows.{string_row, after_string_row}
use Rattle.cl_token.specs.Scanning.{meant, string_head}

-- the row is that of the bytes behind a character, with the character before it
pub record OneMore (bytes : List ℕ) (byte : ℕ) (rest : List ℕ) : Type 0 where
  pub row : map character_meaning (string_row bytes) ≡ byte ∷ map character_meaning (string_row rest)
  pub after : after_string_row bytes ≡ after_string_row rest

some_pair : (a b : ℕ) (xs ys : List ℕ) → ◌≡◌ {A = Option (ℕ × List ℕ)} (Some (a, xs)) (Some (b, ys)) → (a ≡ b) × (xs ≡ ys)
some_pair a b xs ys e = let p : ◌≡◌ {A = ℕ × List ℕ} (a, xs) (b, ys) = cc in (ap (λ (x : ℕ × List ℕ). x.0) p, ap (λ (x : ℕ × List ℕ). x.1) p)

none_is_some : (x : ℕ × List ℕ) → ◌≡◌ {A = Option (ℕ × List ℕ)} None (Some x) → ⊥
none_is_some x e = cc

pub string_goes : (bytes : List ℕ) (b : ℕ) (rest : List ℕ) → meant (string_head bytes) ≡ Some (b, rest) → OneMore bytes b rest
string_goes [] b rest e = absurd (none_is_some _ e)
string_goes (byte ∷ []) b rest e =
    elim (cases_Bool (is_string_byte byte)) [
      | inl t ↦
          let p = some_pair byte b [] rest (rw t at e) in
          record { row = rw (t, ← p.0, ← p.1) refl; after = rw (t, ← p.1) refl }
      | inr f ↦ absurd (none_is_some _ (rw f at e))
    ]
string_goes (byte ∷ next ∷ bytes) b rest e =
    elim (cases_Bool (is_string_byte byte)) [
      | inl t ↦
          let p = some_pair byte b (next ∷ bytes) rest (rw t at e) in
          record { row = rw (t, ← p.0, ← p.1) refl; after = rw (t, ← p.1) refl }
      | inr f ↦
          elim (cases_Bool (eqb byte 92 && is_escape next)) [
            | inl t ↦
                let p = some_pair (escape_byte next) b bytes rest (rw (f, t) at e) in
                record { row = rw (f, t, ← p.0, ← p.1) refl; after = rw (f, t, ← p.1) refl }
            | inr g ↦ absurd (none_is_some _ (rw (f, g) at e))
          ]
    ]

-- the row is empty
pub record NoMore (bytes : List ℕ) : Type 0 where
  pub row : map character_meaning (string_row bytes) ≡ []
  pub after : after_string_row bytes ≡ bytes

pub string_stops : (bytes : List ℕ) → ◌≡◌ {A = Option (ℕ × List ℕ)} None (meant (string_head bytes)) → NoMore bytes
string_stops [] e = record { row = refl; after = refl }
string_stops (byte ∷ []) e =
    elim (cases_Bool (is_string_byte byte)) [
      | inl t ↦ absurd (none_is_some _ (rw t at e))
      | inr f ↦ record { row = rw f refl; after = rw f refl }
    ]
string_stops (byte ∷ next ∷ bytes) e =
    elim (cases_Bool (is_string_byte byte)) [
      | inl t ↦ absurd (none_is_some _ (rw t at e))
      | inr f ↦
          elim (cases_Bool (eqb byte 92 && is_escape next)) [
            | inl t ↦ absurd (none_is_some _ (rw (f, t) at e))
            | inr g ↦ record { row = rw (f, g) refl; after = rw (f, g) refl }
          ]
    ]

-- one character more of the row
pub row_goes : (so_far : List ℕ) (bytes : List ℕ) (b : ℕ) (rest whole : List ℕ) → meant (string_head bytes) ≡ Some (b, rest) → so_far ++ map character_meaning (string_row bytes) ≡ whole → (so_far ++ b ∷ []) ++ map character_meaning (string_row rest) ≡ whole
row_goes so_far bytes b rest whole e known =
    append_assoc so_far (b ∷ []) (map character_meaning (string_row rest)) ∙ (ap (λ (row : List ℕ). so_far ++ row) (sym (string_goes bytes b rest e).row) ∙ known)
