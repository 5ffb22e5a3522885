-- A number and a literal end where their spelling does.
use Rattle.std.proofs.Common.{◌≡◌, ℕ, Bool, true, false, cond, eqb, not, List, [], ◌∷◌, ◌++◌, map, Some, None, refl, sym, ap, subst, ◌∙◌, inl, inr, append_assoc}
use Rattle.std.proofs.lemmas.Bool.{cases_Bool, and_parts, and_from, eqb-true, cond-true, cond-false}
use Rattle.std.specs.Prelude.{◌==◌, if◌then◌else◌}
use Rattle.std.specs.List.{list_all}
use Rattle.cl_ast.specs.declared.fault.LexKind.TheVariants as faults
use Rattle.cl_ast.specs.Plain.{Character, Str}
use Rattle.cl_ast.specs.Bytes.{is_digit, is_hexadecimal_digit, is_name_byte, is_x, is_suffix, is_string_byte, is_escape, is_character_byte, is_character_escape, begins_with}
use Rattle.cl_ast.specs.Lexemes.{Spelled, Itself, Escape, character_spelling, characters_spelling, character_meaning, value_on, fits_long, number_kind, is_decimal, is_hexadecimal, is_a_suffix, is_string_character, is_character}
use Rattle.cl_ast.specs.Rows.{front_run, after_run, behind_first, string_row, after_string_row, character_at, after_prefix, decimal_row, after_decimal_row}
use Rattle.cl_ast.specs.Ends.{LiteralEnd, Ends, Fails, is_cut, bad_of, behind_digits, based_end, number_end, character_end_behind, literal_end}
use Rattle.cl_token.proofs.Runs.{front_whole, after_whole}
use Rattle.cl_token.proofs.CompleteBytes.{true_is_false, begins_by, suffix_name, suffix_no_digit, suffix_no_hexadecimal, suffix_no_x, x_name, digit_name, hexadecimal_name}

-- ---- numbers

behind_again : (bytes : List ℕ) (value : ℕ) (suffix rest : List ℕ) → fits_long value ≡ true → is_a_suffix suffix ≡ true → begins_with is_name_byte rest ≡ false → behind_digits bytes value (suffix ++ rest) ≡ Ends (number_kind value suffix) rest
behind_again bytes value [] rest fits form ends =
    let s : begins_with is_suffix rest ≡ false = begins_by is_suffix is_name_byte suffix_name rest ends in
    rw (fits, s, ends) refl
behind_again bytes value (byte ∷ []) rest fits form ends = rw (fits, form, ends) refl
behind_again bytes value (byte ∷ more ∷ suffix) rest fits form ends = true_is_false (sym form)

-- what stands behind the digits of a number is none of a kind that holds no suffix
ends_digits : (p : ℕ → Bool) → ((byte : ℕ) → is_suffix byte ≡ true → p byte ≡ false) → ((byte : ℕ) → p byte ≡ true → is_name_byte byte ≡ true) → (suffix rest : List ℕ) → is_a_suffix suffix ≡ true → begins_with is_name_byte rest ≡ false → begins_with p (suffix ++ rest) ≡ false
ends_digits p no_suffix named [] rest form ends = begins_by p is_name_byte named rest ends
ends_digits p no_suffix named (byte ∷ []) rest form ends = no_suffix byte form
ends_digits p no_suffix named (byte ∷ more ∷ suffix) rest form ends = true_is_false (sym form)

no_prefix_zero : (more : List ℕ) → begins_with is_x more ≡ false → after_prefix (48 ∷ more) ≡ None
no_prefix_zero [] f = refl
no_prefix_zero (x ∷ more) f = rw f refl

no_prefix : (digit : ℕ) (more : List ℕ) → eqb digit 48 ≡ false → after_prefix (digit ∷ more) ≡ None
no_prefix digit [] f = refl
no_prefix digit (x ∷ more) f = rw f refl

at_digit : (byte : ℕ) (more : List ℕ) → is_digit byte ≡ true → literal_end (byte ∷ more) ≡ number_end (byte ∷ more)
at_digit byte more t = cond-true (is_digit byte) _ _ t

zero_again : (suffix rest : List ℕ) → is_a_suffix suffix ≡ true → begins_with is_name_byte rest ≡ false → literal_end (48 ∷ (suffix ++ rest)) ≡ Ends (number_kind 0 suffix) rest
zero_again suffix rest form ends =
    ap (based_end (48 ∷ (suffix ++ rest))) (no_prefix_zero (suffix ++ rest) (ends_digits is_x suffix_no_x x_name suffix rest form ends))
    ∙ behind_again (48 ∷ (suffix ++ rest)) 0 suffix rest refl form ends

other_again : (digit : ℕ) (digits suffix rest : List ℕ) → eqb digit 48 ≡ false → is_digit digit ≡ true → list_all is_digit digits ≡ true → is_a_suffix suffix ≡ true → fits_long (value_on 10 0 (digit ∷ digits)) ≡ true → begins_with is_name_byte rest ≡ false → literal_end ((digit ∷ digits) ++ (suffix ++ rest)) ≡ Ends (number_kind (value_on 10 0 (digit ∷ digits)) suffix) rest
other_again digit digits suffix rest other first all form fits ends =
    let bytes = (digit ∷ digits) ++ (suffix ++ rest) in
    let stop : begins_with is_digit (suffix ++ rest) ≡ false = ends_digits is_digit suffix_no_digit digit_name suffix rest form ends in
    let whole : list_all is_digit (digit ∷ digits) ≡ true = and_from (is_digit digit) (list_all is_digit digits) first all in
    let front : front_run is_digit bytes ≡ digit ∷ digits = front_whole is_digit (digit ∷ digits) (suffix ++ rest) whole stop in
    let after : after_run is_digit bytes ≡ suffix ++ rest = after_whole is_digit (digit ∷ digits) (suffix ++ rest) whole stop in
    let row : decimal_row bytes ≡ digit ∷ digits = ap (λ (b : Bool). cond b (48 ∷ []) (front_run is_digit bytes)) other ∙ front in
    let behind : after_decimal_row bytes ≡ suffix ++ rest = ap (λ (b : Bool). cond b (behind_first bytes) (after_run is_digit bytes)) other ∙ after in
    at_digit digit (digits ++ (suffix ++ rest)) first
    ∙ ap (based_end bytes) (no_prefix digit (digits ++ (suffix ++ rest)) other)
    ∙ ap (λ (x : List ℕ). behind_digits bytes (value_on 10 0 x) (after_decimal_row bytes)) row
    ∙ ap (λ (x : List ℕ). behind_digits bytes (value_on 10 0 (digit ∷ digits)) x) behind
    ∙ behind_again bytes (value_on 10 0 (digit ∷ digits)) suffix rest fits form ends

begins_any : (digits : List ℕ) → not (begins_with (λ byte. true) digits) ≡ true → digits ≡ []
begins_any [] e = refl
begins_any (digit ∷ digits) e = true_is_false (sym e)

zero_alone : (digit : ℕ) (digits suffix rest : List ℕ) → digit ≡ 48 → not (begins_with (λ byte. true) digits) ≡ true → is_a_suffix suffix ≡ true → begins_with is_name_byte rest ≡ false → literal_end ((digit ∷ digits) ++ (suffix ++ rest)) ≡ Ends (number_kind (value_on 10 0 (digit ∷ digits)) suffix) rest
zero_alone digit digits suffix rest zeroed alone form ends =
    let none = begins_any digits alone in
    let spelled = zero_again suffix rest form ends in
    let alone : literal_end ((48 ∷ digits) ++ (suffix ++ rest)) ≡ Ends (number_kind (value_on 10 0 (48 ∷ digits)) suffix) rest =
    subst (λ (x : List ℕ). literal_end ((48 ∷ x) ++ (suffix ++ rest)) ≡ Ends (number_kind (value_on 10 0 (48 ∷ x)) suffix) rest) (sym none) spelled in
    subst (λ (x : ℕ). literal_end ((x ∷ digits) ++ (suffix ++ rest)) ≡ Ends (number_kind (value_on 10 0 (x ∷ digits)) suffix) rest) (sym zeroed) alone

prefix_is : (x : ℕ) (more : List ℕ) → is_x x ≡ true → after_prefix (48 ∷ x ∷ more) ≡ Some more
prefix_is x more t = cond-true (is_x x) _ _ t

pub decimal_again : (digits suffix rest : List ℕ) → is_decimal digits ≡ true → is_a_suffix suffix ≡ true → fits_long (value_on 10 0 digits) ≡ true → begins_with is_name_byte rest ≡ false → literal_end ((digits ++ suffix) ++ rest) ≡ Ends (number_kind (value_on 10 0 digits) suffix) rest
decimal_again [] suffix rest form s f e = true_is_false (sym form)
decimal_again (digit ∷ digits) suffix rest form s f e =
    ap literal_end (append_assoc (digit ∷ digits) suffix rest)
    ∙ elim (cases_Bool (eqb digit 48)) [
      | inl t ↦ zero_alone digit digits suffix rest (eqb-true digit 48 t) (sym (cond-true (eqb digit 48) _ _ t) ∙ form) s e
      | inr g ↦
          let both = and_parts (is_digit digit) (list_all is_digit digits) (sym (cond-false (eqb digit 48) _ _ g) ∙ form) in
          other_again digit digits suffix rest g both.0 both.1 s f e
    ]

pub hexadecimal_again : (x : ℕ) (digits suffix rest : List ℕ) → is_x x ≡ true → is_hexadecimal digits ≡ true → is_a_suffix suffix ≡ true → fits_long (value_on 16 0 digits) ≡ true → begins_with is_name_byte rest ≡ false → literal_end ((48 ∷ x ∷ (digits ++ suffix)) ++ rest) ≡ Ends (number_kind (value_on 16 0 digits) suffix) rest
hexadecimal_again x [] suffix rest prefix form s f e = true_is_false (sym form)
hexadecimal_again x (digit ∷ digits) suffix rest prefix form s f e =
    let all = digit ∷ digits in
    let more = all ++ (suffix ++ rest) in
    let bytes = 48 ∷ x ∷ more in
    let stop : begins_with is_hexadecimal_digit (suffix ++ rest) ≡ false = ends_digits is_hexadecimal_digit suffix_no_hexadecimal hexadecimal_name suffix rest s e in
    let front : front_run is_hexadecimal_digit more ≡ all = front_whole is_hexadecimal_digit all (suffix ++ rest) form stop in
    let after : after_run is_hexadecimal_digit more ≡ suffix ++ rest = after_whole is_hexadecimal_digit all (suffix ++ rest) form stop in
    let first : is_hexadecimal_digit digit ≡ true = (and_parts (is_hexadecimal_digit digit) (list_all is_hexadecimal_digit digits) form).0 in
    ap (λ (y : List ℕ). literal_end (48 ∷ x ∷ y)) (append_assoc all suffix rest)
    ∙ ap (based_end bytes) (prefix_is x more prefix)
    ∙ cond-true (is_hexadecimal_digit digit) _ _ first
    ∙ ap (λ (y : List ℕ). behind_digits bytes (value_on 16 0 y) (after_run is_hexadecimal_digit more)) front
    ∙ ap (λ (y : List ℕ). behind_digits bytes (value_on 16 0 all) y) after
    ∙ behind_again bytes (value_on 16 0 all) suffix rest f s e

-- ---- literals of either quote

character_again : (character : Spelled) (rest : List ℕ) → is_character character ≡ true → character_at (character_spelling character ++ 39 ∷ rest) ≡ Some (character, 39 ∷ rest)
character_again (Itself byte) rest form = cond-true (is_character_byte byte) _ _ form
character_again (Escape letter) rest form = cond-true (is_character_escape letter) _ _ form

pub quoted_again : (character : Spelled) (rest : List ℕ) → is_character character ≡ true → literal_end ((39 ∷ (character_spelling character ++ 39 ∷ [])) ++ rest) ≡ Ends (Character (character_meaning character)) rest
quoted_again character rest form =
    let more = character_spelling character ++ 39 ∷ rest in
    ap (λ (y : List ℕ). literal_end (39 ∷ y)) (append_assoc (character_spelling character) (39 ∷ []) rest)
    ∙ ap (character_end_behind (39 ∷ more) more) (character_again character rest form)

row_steps : (byte : ℕ) (bytes : List ℕ) → is_string_byte byte ≡ true → string_row (byte ∷ bytes) ≡ Itself byte ∷ string_row bytes
row_steps byte [] t = cond-true (is_string_byte byte) _ _ t
row_steps byte (next ∷ bytes) t = cond-true (is_string_byte byte) _ _ t

after_steps : (byte : ℕ) (bytes : List ℕ) → is_string_byte byte ≡ true → after_string_row (byte ∷ bytes) ≡ after_string_row bytes
after_steps byte [] t = cond-true (is_string_byte byte) _ _ t
after_steps byte (next ∷ bytes) t = cond-true (is_string_byte byte) _ _ t

row_ends : (rest : List ℕ) → string_row (34 ∷ rest) ≡ []
row_ends [] = refl
row_ends (byte ∷ rest) = refl

after_ends : (rest : List ℕ) → after_string_row (34 ∷ rest) ≡ 34 ∷ rest
after_ends [] = refl
after_ends (byte ∷ rest) = refl

-- the characters of a string, up to its closing quote
record IsRow (characters : List Spelled) (rest : List ℕ) : Type 0 where
  row : string_row (characters_spelling characters ++ 34 ∷ rest) ≡ characters
  after : after_string_row (characters_spelling characters ++ 34 ∷ rest) ≡ 34 ∷ rest

row_again : (characters : List Spelled) (rest : List ℕ) → list_all is_string_character characters ≡ true → IsRow characters rest
row_again [] rest all = record { row = row_ends rest; after = after_ends rest }
row_again (Itself byte ∷ characters) rest all =
    let both = and_parts (is_string_byte byte) (list_all is_string_character characters) all in
    let r = row_again characters rest both.1 in
    let more = characters_spelling characters ++ 34 ∷ rest in
    record {
      row = row_steps byte more both.0 ∙ ap (λ (cs : List Spelled). Itself byte ∷ cs) r.row;
      after = after_steps byte more both.0 ∙ r.after;
    }
row_again (Escape letter ∷ characters) rest all =
    let both = and_parts (is_escape letter) (list_all is_string_character characters) all in
    let r = row_again characters rest both.1 in
    record {
      row = cond-true (is_escape letter) _ _ both.0 ∙ ap (λ (cs : List Spelled). Escape letter ∷ cs) r.row;
      after = cond-true (is_escape letter) _ _ both.0 ∙ r.after;
    }

-- a string by its row and the bytes behind it
abbrev string_end_by : List ℕ → List Spelled → List ℕ → LiteralEnd
string_end_by bytes row behind =
    if begins_with (λ byte. byte == 34) behind then Ends (Str (map character_meaning row)) (behind_first behind)
    else (if is_cut behind then Fails faults.OpenString bytes else Fails faults.BadByte (bad_of behind))

pub text_again : (characters : List Spelled) (rest : List ℕ) → list_all is_string_character characters ≡ true → literal_end ((34 ∷ (characters_spelling characters ++ 34 ∷ [])) ++ rest) ≡ Ends (Str (map character_meaning characters)) rest
text_again characters rest all =
    let more = characters_spelling characters ++ 34 ∷ rest in
    let r = row_again characters rest all in
    ap (λ (y : List ℕ). literal_end (34 ∷ y)) (append_assoc (characters_spelling characters) (34 ∷ []) rest)
    ∙ ap (λ (y : List ℕ). string_end_by (34 ∷ more) (string_row more) y) r.after
    ∙ ap (λ (y : List Spelled). string_end_by (34 ∷ more) y (34 ∷ rest)) r.row
