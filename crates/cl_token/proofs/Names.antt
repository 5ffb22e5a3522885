-- When the letters at a place are a name.
use Rattle.std.proofs.Common.{◌≡◌, ℕ, Bool, true, false, List, [], ◌∷◌, Option, Some, None, refl, sym, ap, ◌∙◌, inl, inr}
use Rattle.std.specs.List.{list_all}
use Rattle.std.proofs.lemmas.Bool.{cases_Bool, and_from, or_left}
use Rattle.cl_ast.specs.declared.word.Word.{Word}
use Rattle.cl_ast.specs.Plain.{Name}
use Rattle.cl_ast.specs.Bytes.{is_letter, is_digit, is_name_byte, begins_with}
use Rattle.cl_ast.specs.Lexemes.{word_or, letters_kind, word_of, is_reserved, is_letters}
use Rattle.cl_ast.specs.Pieces.{is_name_kind, is_name}
use Rattle.cl_ast.specs.Rows.{front_run}
use Rattle.cl_token.proofs.Runs.{front_passes, front_fails, front_all}

-- a row of name bytes is letters where it begins with one
pub letters_is : (named : List ℕ) → is_letters (front_run is_name_byte named) ≡ begins_with is_letter named
letters_is [] = refl
letters_is (byte ∷ bytes) =
    elim (cases_Bool (is_letter byte)) [
      | inl t ↦
          let passes : is_name_byte byte ≡ true = or_left (is_letter byte) (is_digit byte) t in
          ap is_letters (front_passes is_name_byte byte bytes passes) ∙ (and_from (is_letter byte) (list_all is_name_byte (front_run is_name_byte bytes)) t (front_all is_name_byte bytes) ∙ sym t)
      | inr f ↦
          elim (cases_Bool (is_name_byte byte)) [
            | inl passes ↦ ap is_letters (front_passes is_name_byte byte bytes passes) ∙ rw f refl
            | inr fails ↦ ap is_letters (front_fails is_name_byte byte bytes fails) ∙ sym f
          ]
    ]

false_is_true : ◌≡◌ {A = Bool} false true → ⊥
false_is_true e = cc

itself : (word : Option Word) (reserved : Bool) (bytes : List ℕ) → is_name_kind (word_or word reserved bytes) ≡ true → word_or word reserved bytes ≡ Name bytes
itself (Some word) reserved bytes e = absurd (false_is_true e)
itself None true bytes e = absurd (false_is_true e)
itself None false bytes e = refl

pub is_named : (named : List ℕ) → begins_with is_letter named ≡ true → is_name_kind (letters_kind (front_run is_name_byte named)) ≡ true → (is_name (front_run is_name_byte named) ≡ true) × (letters_kind (front_run is_name_byte named) ≡ Name (front_run is_name_byte named))
is_named named begins kind =
    let row = front_run is_name_byte named in
    (and_from (is_letters row) (is_name_kind (letters_kind row)) (letters_is named ∙ begins) kind, itself (word_of row) (is_reserved row) row kind)

pub not_named : (named : List ℕ) → is_name_kind (letters_kind (front_run is_name_byte named)) ≡ false → is_name (front_run is_name_byte named) ≡ false
not_named named kind =
    let row = front_run is_name_byte named in
    elim (cases_Bool (is_letters row)) [ inl t ↦ rw t kind | inr f ↦ rw f refl ]

pub unlettered : (named : List ℕ) → begins_with is_letter named ≡ false → is_name (front_run is_name_byte named) ≡ false
unlettered named begins =
    let e : is_letters (front_run is_name_byte named) ≡ false = letters_is named ∙ begins in
    rw e refl
