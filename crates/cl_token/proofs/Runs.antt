-- The longest rows of bytes.
use Rattle.std.proofs.Common.{◌≡◌, ℕ, Bool, true, false, eqb, List, [], ◌∷◌, ◌++◌, refl, sym, ap, ◌∙◌, inl, inr, add-one}
use Rattle.std.specs.List.{list_all}
use Rattle.std.proofs.lemmas.Bool.{cases_Bool, and_from, and_parts, eqb-true}
use Rattle.std.proofs.lemmas.List.{take-append-drop}
use Rattle.cl_ast.specs.Bytes.{begins_with}
use Rattle.cl_ast.specs.Lexemes.{same_bytes}
use Rattle.cl_ast.specs.Rows.{run, front_run, after_run}

pub front_passes : (p : ℕ → Bool) (byte : ℕ) (bytes : List ℕ) → p byte ≡ true → front_run p (byte ∷ bytes) ≡ byte ∷ front_run p bytes
front_passes p byte bytes t = rw (t, add-one) refl

pub after_passes : (p : ℕ → Bool) (byte : ℕ) (bytes : List ℕ) → p byte ≡ true → after_run p (byte ∷ bytes) ≡ after_run p bytes
after_passes p byte bytes t = rw (t, add-one) refl

pub front_fails : (p : ℕ → Bool) (byte : ℕ) (bytes : List ℕ) → p byte ≡ false → front_run p (byte ∷ bytes) ≡ []
front_fails p byte bytes f = rw f refl

pub after_fails : (p : ℕ → Bool) (byte : ℕ) (bytes : List ℕ) → p byte ≡ false → after_run p (byte ∷ bytes) ≡ byte ∷ bytes
after_fails p byte bytes f = rw f refl

pub front_all : (p : ℕ → Bool) (bytes : List ℕ) → list_all p (front_run p bytes) ≡ true
front_all p [] = refl
front_all p (byte ∷ bytes) =
    elim (cases_Bool (p byte)) [
      | inl t ↦ ap (list_all p) (front_passes p byte bytes t) ∙ and_from (p byte) (list_all p (front_run p bytes)) t (front_all p bytes)
      | inr f ↦ ap (list_all p) (front_fails p byte bytes f)
    ]

pub after_begins : (p : ℕ → Bool) (bytes : List ℕ) → begins_with p (after_run p bytes) ≡ false
after_begins p [] = refl
after_begins p (byte ∷ bytes) =
    elim (cases_Bool (p byte)) [
      | inl t ↦ ap (begins_with p) (after_passes p byte bytes t) ∙ after_begins p bytes
      | inr f ↦ ap (begins_with p) (after_fails p byte bytes f) ∙ f
    ]

pub front_whole : (p : ℕ → Bool) (xs rest : List ℕ) → list_all p xs ≡ true → begins_with p rest ≡ false → front_run p (xs ++ rest) ≡ xs
front_whole p [] [] all ends = refl
front_whole p [] (byte ∷ bytes) all ends = front_fails p byte bytes ends
front_whole p (x ∷ xs) rest all ends =
    let both = and_parts (p x) (list_all p xs) all in
    front_passes p x (xs ++ rest) both.0 ∙ ap (λ (ys : List ℕ). x ∷ ys) (front_whole p xs rest both.1 ends)

pub after_whole : (p : ℕ → Bool) (xs rest : List ℕ) → list_all p xs ≡ true → begins_with p rest ≡ false → after_run p (xs ++ rest) ≡ rest
after_whole p [] [] all ends = refl
after_whole p [] (byte ∷ bytes) all ends = after_fails p byte bytes ends
after_whole p (x ∷ xs) rest all ends =
    let both = and_parts (p x) (list_all p xs) all in
    after_passes p x (xs ++ rest) both.0 ∙ after_whole p xs rest both.1 ends

-- the bytes are the row and those behind it
pub row_joins : (p : ℕ → Bool) (bytes : List ℕ) → bytes ≡ front_run p bytes ++ after_run p bytes
row_joins p bytes = sym (take-append-drop (run p bytes) bytes)

pub same_is : (a b : List ℕ) → same_bytes a b ≡ true → a ≡ b
same_is [] [] e = refl
same_is [] (y ∷ ys) e = absurd cc
same_is (x ∷ xs) [] e = absurd cc
same_is (x ∷ xs) (y ∷ ys) e =
    let both = and_parts (eqb x y) (same_bytes xs ys) e in
    let head : x ≡ y = eqb-true x y both.0 in
    let tail : xs ≡ ys = same_is xs ys both.1 in
    cc
