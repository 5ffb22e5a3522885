-- Which bytes begin a number or a literal, and by which faults they fail.
use Rattle.std.proofs.Common.{◌≡◌, ℕ, Bool, true, false, cond, eqb, ◌&&◌, not, List, [], ◌∷◌, Option, Some, None, refl, sym, ap, ◌∙◌, inl, inr, arith}
use Rattle.std.specs.Prelude.{codes}
use Rattle.std.proofs.lemmas.Bool.{eqb-true, cases_Bool}
use Rattle.cl_ast.specs.declared.fault.LexKind.{LexKind}
use Rattle.cl_ast.specs.declared.fault.LexKind.TheVariants as faults
use Rattle.cl_ast.specs.Bytes.{is_line_end, is_space, is_blank, is_separator, is_letter, is_digit, is_hexadecimal_digit, is_name_byte, begins_with}
use Rattle.cl_ast.specs.Lexemes.{Spelled, same_bytes, fits_long, value_on}
use Rattle.cl_ast.specs.Pieces.{is_literal_kind}
use Rattle.cl_ast.specs.Rows.{front_run, after_run, after_prefix, after_suffix, decimal_row, after_decimal_row, after_string_row, character_at}
use Rattle.cl_ast.specs.Ends.{LiteralEnd, NoLiteral, Ends, Fails, is_line_cut, is_cut, behind_digits, based_end, number_end, string_end, character_end_behind, character_end, literal_end, LineEnd, LineEnds, LineFails, NoLine, tail_on, tail_end, behind_literal, literal_place, placed_end, define_end, word_end, line_end}
use Rattle.cl_token.proofs.Bounds.{no_separator, no_letter, within, chosen}

-- ---- what begins a literal

-- a byte that begins a number or a literal, or one that doesn't
pub digit_class : (byte : ℕ) → is_digit byte ≡ true → (is_separator byte ≡ false) × (is_letter byte ≡ false)
digit_class byte d = let w = within 48 57 byte d in (no_separator byte (omega (arith, w)), no_letter byte (omega (arith, w)))

-- the literal is there
abbrev pub is_there : LiteralEnd → Bool
is_there NoLiteral = false
is_there _ = true

there_cond : (b : Bool) (x y : LiteralEnd) → is_there x ≡ true → is_there y ≡ true → is_there (cond b x y) ≡ true
there_cond true x y a b = a
there_cond false x y a b = b

digits_there : (bytes : List ℕ) (value : ℕ) (behind : List ℕ) → is_there (behind_digits bytes value behind) ≡ true
digits_there bytes value behind = there_cond (not (fits_long value)) _ _ refl (there_cond (begins_with is_name_byte (after_suffix behind)) _ _ refl refl)

based_there : (bytes : List ℕ) (o : Option (List ℕ)) → is_there (based_end bytes o) ≡ true
based_there bytes None = digits_there bytes (value_on 10 0 (decimal_row bytes)) (after_decimal_row bytes)
based_there bytes (Some digits) = there_cond (begins_with is_hexadecimal_digit digits) _ _ (digits_there bytes (value_on 16 0 (front_run is_hexadecimal_digit digits)) (after_run is_hexadecimal_digit digits)) refl

pub number_there : (bytes : List ℕ) → is_there (number_end bytes) ≡ true
number_there bytes = based_there bytes (after_prefix bytes)

pub string_there : (bytes more : List ℕ) → is_there (string_end bytes more) ≡ true
string_there bytes more = there_cond (begins_with (λ byte. eqb byte 34) (after_string_row more)) _ _ refl (there_cond (is_cut (after_string_row more)) _ _ refl refl)

character_behind_there : (bytes more : List ℕ) (o : Option (Spelled × List ℕ)) → is_there (character_end_behind bytes more o) ≡ true
character_behind_there bytes more None = there_cond (is_cut more) _ _ refl refl
character_behind_there bytes more (Some x) = there_cond (begins_with (λ byte. eqb byte 39) x.1) _ _ refl (there_cond (is_line_cut x.1) _ _ refl refl)

pub character_there : (bytes more : List ℕ) → is_there (character_end bytes more) ≡ true
character_there bytes more = character_behind_there bytes more (character_at more)

-- what begins with no digit and no quote is no literal, and else there is one
pub literal_absent : (byte : ℕ) (bytes : List ℕ) → is_digit byte ≡ false → eqb byte 39 ≡ false → eqb byte 34 ≡ false → literal_end (byte ∷ bytes) ≡ NoLiteral
literal_absent byte bytes d c s = rw (d, c, s) refl

pub record NoStart (byte : ℕ) : Type 0 where
  pub digit : is_digit byte ≡ false
  pub quote : eqb byte 39 ≡ false
  pub double : eqb byte 34 ≡ false

there_no : (x : LiteralEnd) → x ≡ NoLiteral → is_there x ≡ true → ⊥
there_no x e t = let f : false ≡ true = sym (ap is_there e) ∙ t in cc

pub absent_start : (byte : ℕ) (bytes : List ℕ) → literal_end (byte ∷ bytes) ≡ NoLiteral → NoStart byte
absent_start byte bytes e =
    elim (chosen (is_digit byte) _ _ _ e) [
      | inl t ↦ absurd (there_no _ t.1 (number_there (byte ∷ bytes)))
      | inr f ↦
          elim (chosen (eqb byte 39) _ _ _ f.1) [
            | inl t ↦ absurd (there_no _ t.1 (character_there (byte ∷ bytes) bytes))
            | inr g ↦
                elim (chosen (eqb byte 34) _ _ _ g.1) [
                  | inl t ↦ absurd (there_no _ t.1 (string_there (byte ∷ bytes) bytes))
                  | inr h ↦ record { digit = f.0; quote = g.0; double = h.0 }
                ]
          ]
    ]

pub literal_class : (byte : ℕ) (bytes : List ℕ) → is_there (literal_end (byte ∷ bytes)) ≡ true → (is_separator byte ≡ false) × (is_letter byte ≡ false)
literal_class byte bytes t =
    elim (cases_Bool (is_digit byte)) [
      | inl d ↦ digit_class byte d
      | inr d ↦
          elim (cases_Bool (eqb byte 39)) [
            | inl c ↦ let e = eqb-true byte 39 c in (no_separator byte (omega (arith, e)), no_letter byte (omega (arith, e)))
            | inr c ↦
                elim (cases_Bool (eqb byte 34)) [
                  | inl s ↦ let e = eqb-true byte 34 s in (no_separator byte (omega (arith, e)), no_letter byte (omega (arith, e)))
                  | inr s ↦ absurd (there_no _ (literal_absent byte bytes d c s) t)
                ]
          ]
    ]

-- ---- the faults of a literal

-- a number or a literal fails by these kinds alone
abbrev pub is_literal_fault : LexKind → Bool
is_literal_fault faults.BadByte = true
is_literal_fault faults.OpenString = true
is_literal_fault faults.WideLiteral = true
is_literal_fault _ = false

abbrev pub fails_right : LiteralEnd → Bool
fails_right (Fails fault bad) = is_literal_fault fault
fails_right _ = true

right_cond : (b : Bool) (x y : LiteralEnd) → fails_right x ≡ true → fails_right y ≡ true → fails_right (cond b x y) ≡ true
right_cond true x y a b = a
right_cond false x y a b = b

digits_right : (bytes : List ℕ) (value : ℕ) (behind : List ℕ) → fails_right (behind_digits bytes value behind) ≡ true
digits_right bytes value behind = right_cond (not (fits_long value)) _ _ refl (right_cond (begins_with is_name_byte (after_suffix behind)) _ _ refl refl)

based_right : (bytes : List ℕ) (o : Option (List ℕ)) → fails_right (based_end bytes o) ≡ true
based_right bytes None = digits_right bytes (value_on 10 0 (decimal_row bytes)) (after_decimal_row bytes)
based_right bytes (Some digits) = right_cond (begins_with is_hexadecimal_digit digits) _ _ (digits_right bytes (value_on 16 0 (front_run is_hexadecimal_digit digits)) (after_run is_hexadecimal_digit digits)) refl

character_behind_right : (bytes more : List ℕ) (o : Option (Spelled × List ℕ)) → fails_right (character_end_behind bytes more o) ≡ true
character_behind_right bytes more None = right_cond (is_cut more) _ _ refl refl
character_behind_right bytes more (Some x) = right_cond (begins_with (λ byte. eqb byte 39) x.1) _ _ refl (right_cond (is_line_cut x.1) _ _ refl refl)

string_right : (bytes more : List ℕ) → fails_right (string_end bytes more) ≡ true
string_right bytes more = right_cond (begins_with (λ byte. eqb byte 34) (after_string_row more)) _ _ refl (right_cond (is_cut (after_string_row more)) _ _ refl refl)

pub literal_right : (bytes : List ℕ) → fails_right (literal_end bytes) ≡ true
literal_right [] = refl
literal_right (byte ∷ bytes) =
    right_cond (is_digit byte) _ _ (based_right (byte ∷ bytes) (after_prefix (byte ∷ bytes)))
    (right_cond (eqb byte 39) _ _ (character_behind_right (byte ∷ bytes) bytes (character_at bytes))
    (right_cond (eqb byte 34) _ _ (string_right (byte ∷ bytes) bytes) refl))

-- ---- the faults of a line

abbrev pub is_line_fault : LexKind → Bool
is_line_fault faults.OpenComment = true
is_line_fault faults.OpenString = true
is_line_fault faults.WideLiteral = true
is_line_fault _ = false

abbrev pub line_right : LineEnd → Bool
line_right (LineFails fault bad) = is_line_fault fault
line_right _ = true

line_cond : (b : Bool) (x y : LineEnd) → line_right x ≡ true → line_right y ≡ true → line_right (cond b x y) ≡ true
line_cond true x y a b = a
line_cond false x y a b = b

tail_right : (o : Option (List ℕ)) (bytes : List ℕ) → line_right (tail_on o bytes) ≡ true
tail_right None [] = refl
tail_right None (byte ∷ []) = line_cond (is_line_end byte) (LineEnds (byte ∷ [])) (cond (is_blank byte) (LineEnds []) NoLine) refl (line_cond (is_blank byte) (LineEnds []) NoLine refl refl)
tail_right None (byte ∷ next ∷ bytes) =
    let block = cond (eqb byte 47 && eqb next 42) (tail_on (Some (byte ∷ next ∷ bytes)) bytes) NoLine in
    let line = cond (eqb byte 47 && eqb next 47) (LineEnds (after_run (λ b. not (is_line_end b)) bytes)) block in
    let blank = cond (is_blank byte) (tail_on None (next ∷ bytes)) line in
    line_cond (is_line_end byte) (LineEnds (byte ∷ next ∷ bytes)) blank refl
    (line_cond (is_blank byte) (tail_on None (next ∷ bytes)) line (tail_right None (next ∷ bytes))
    (line_cond (eqb byte 47 && eqb next 47) (LineEnds (after_run (λ b. not (is_line_end b)) bytes)) block refl
    (line_cond (eqb byte 47 && eqb next 42) (tail_on (Some (byte ∷ next ∷ bytes)) bytes) NoLine (tail_right (Some (byte ∷ next ∷ bytes)) bytes) refl)))
tail_right (Some start) [] = refl
tail_right (Some start) (byte ∷ []) = refl
tail_right (Some start) (byte ∷ next ∷ bytes) = line_cond (eqb byte 42 && eqb next 47) (tail_on None bytes) (tail_on (Some start) (next ∷ bytes)) (tail_right None bytes) (tail_right (Some start) (next ∷ bytes))

behind_right : (x : LiteralEnd) → line_right (behind_literal x) ≡ true
unfolding tail_end
behind_right NoLiteral = refl
behind_right (Ends kind rest) = line_cond (is_literal_kind (Some kind)) _ _ (tail_right None rest) refl
behind_right (Fails faults.BadByte bad) = refl
behind_right (Fails faults.OpenString bad) = refl
behind_right (Fails faults.OpenComment bad) = refl
behind_right (Fails faults.WideLiteral bad) = refl
behind_right (Fails faults.BadDirective bad) = refl

placed_right : (o : Option (List ℕ)) → line_right (placed_end o) ≡ true
placed_right None = refl
placed_right (Some place) = behind_right (literal_end place)

pub word_right : (word behind : List ℕ) → line_right (word_end word behind) ≡ true
word_right word behind =
    let other = cond (same_bytes word (codes "define")) (define_end behind) NoLine in
    line_cond (same_bytes word (codes "include")) (LineEnds (after_run (λ byte. not (is_line_end byte)) behind)) other refl
    (line_cond (same_bytes word (codes "define")) (define_end behind) NoLine (placed_right (literal_place behind)) refl)

pub line_ends_right : (bytes : List ℕ) → line_right (line_end bytes) ≡ true
line_ends_right bytes = word_right (front_run is_name_byte (after_run is_space bytes)) (after_run is_name_byte (after_run is_space bytes))
