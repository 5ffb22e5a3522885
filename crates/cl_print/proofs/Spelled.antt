-- The spelling that the text takes is one of the token.
use Rattle.std.proofs.Common.{◌≡◌, ℕ, ◌≤◌, ℤ, pos, negsuc, Bool, true, false, ◌&&◌, leb, eqb, List, [], ◌∷◌, map, Option, Some, None, decimal, refl, ap, ◌∙◌, arith, inl, inr}
use Rattle.std.specs.Prelude.{if◌then◌else◌}
use Rattle.std.specs.List.{list_all}
use Rattle.std.proofs.lemmas.Bool.{cases_Bool, and_from, and_parts, leb-true, le-leb, cond-true}
use Rattle.cl_ast.specs.declared.word.Word.{Word}
use Rattle.cl_ast.specs.declared.word.Word.TheVariants as words
use Rattle.cl_ast.specs.declared.mark.Mark.{Mark}
use Rattle.cl_ast.specs.declared.mark.Mark.TheVariants as marks
use Rattle.cl_ast.specs.Plain.{PlainKind, Name, Int, Long, Character, Str, Keyword, Reserved, Punctuator, Define}
use Rattle.cl_ast.specs.Lexemes.{character_meaning, word_of, is_reserved, mark_of, word_or, letters_kind, is_letters, is_decimal, is_a_suffix, value_on, number_kind, fits_long, is_character, is_string_character, lexeme_kind, lexeme_goes_on, Sign}
use Rattle.cl_ast.specs.Pieces.{is_name, is_name_kind}
use Rattle.cl_print.specs.Spelling.{word_bytes, mark_bytes, in_string, in_character, lexeme_of}
use Rattle.cl_print.specs.Sayable.{fits_int, is_long, is_sayable}
use Rattle.cl_print.proofs.Numerals.{decimal_value, decimal_form}

false_is_true : {A : Type 0} → ◌≡◌ {A = Bool} false true → A
false_is_true e = absurd cc

-- ---- words, marks, names

word_spelled : (w : Word) → lexeme_kind (lexeme_of (Keyword w)) ≡ Some (Keyword w)
unfolding word_of is_reserved word_bytes
word_spelled words.Int = refl
word_spelled w = refl

mark_spelled : (m : Mark) → lexeme_kind (lexeme_of (Punctuator m)) ≡ Some (Punctuator m)
unfolding mark_of mark_bytes
mark_spelled marks.OpenBracket = refl
mark_spelled m = refl

named : (word : Option Word) (reserved : Bool) (bytes : List ℕ) → is_name_kind (word_or word reserved bytes) ≡ true → word_or word reserved bytes ≡ Name bytes
named (Some word) reserved bytes e = false_is_true e
named None true bytes e = false_is_true e
named None false bytes e = refl

name_spelled : (bytes : List ℕ) → is_name bytes ≡ true → lexeme_kind (lexeme_of (Name bytes)) ≡ Some (Name bytes)
name_spelled bytes e =
    let both = and_parts (is_letters bytes) (is_name_kind (letters_kind bytes)) e in
    cond-true (is_letters bytes) _ _ both.0 ∙ ap (λ k. Some k) (named (word_of bytes) (is_reserved bytes) bytes both.1)

-- ---- numbers

number_spelled : (n : ℕ) (suffix : List ℕ) → n ≤ 9223372036854775807 → is_a_suffix suffix ≡ true →
    (if is_decimal (decimal n) && (is_a_suffix suffix && fits_long (value_on 10 0 (decimal n))) then Some (number_kind (value_on 10 0 (decimal n)) suffix) else None) ≡ Some (number_kind n suffix)
number_spelled n suffix h e =
    let value = decimal_value n (omega arith) in
    let fits : fits_long (value_on 10 0 (decimal n)) ≡ true = ap fits_long value ∙ le-leb n 9223372036854775807 h in
    cond-true (is_decimal (decimal n) && (is_a_suffix suffix && fits_long (value_on 10 0 (decimal n)))) _ _
    (and_from (is_decimal (decimal n)) (is_a_suffix suffix && fits_long (value_on 10 0 (decimal n))) (decimal_form n (omega arith)) (and_from (is_a_suffix suffix) (fits_long (value_on 10 0 (decimal n))) e fits))
    ∙ ap (λ v. Some (number_kind v suffix)) value

int_spelled : (v : ℤ) → fits_int v ≡ true → lexeme_kind (lexeme_of (Int v)) ≡ Some (Int v)
int_spelled (pos n) e =
    let within = leb-true n 2147483647 e in
    number_spelled n [] (omega arith) refl ∙ ap (λ k. Some k) (cond-true (leb n 2147483647) _ _ e)
int_spelled (negsuc n) e = false_is_true e

long_spelled : (v : ℤ) → is_long v ≡ true → lexeme_kind (lexeme_of (Long v)) ≡ Some (Long v)
long_spelled (pos n) e = number_spelled n (76 ∷ []) (leb-true n 9223372036854775807 e) refl
long_spelled (negsuc n) e = false_is_true e

-- ---- characters

-- an escape means the byte that it was written for
in_string_means : (byte : ℕ) → character_meaning (in_string byte) ≡ byte
in_string_means byte =
    elim (cases_Bool (eqb byte 10)) [
      | inl a ↦ (let e : byte ≡ 10 = grind arith in rw e refl)
      | inr a ↦
          elim (cases_Bool (eqb byte 13)) [
            | inl b ↦ (let e : byte ≡ 13 = grind arith in rw e refl)
            | inr b ↦
                elim (cases_Bool (eqb byte 92)) [
                  | inl c ↦ (let e : byte ≡ 92 = grind arith in rw e refl)
                  | inr c ↦
                      elim (cases_Bool (eqb byte 34)) [
                        | inl d ↦ (let e : byte ≡ 34 = grind arith in rw e refl)
                        | inr d ↦ rw (a, b, c, d) refl
                      ]
                ]
          ]
    ]

in_character_means : (byte : ℕ) → character_meaning (in_character byte) ≡ byte
in_character_means byte =
    elim (cases_Bool (eqb byte 10)) [
      | inl a ↦ (let e : byte ≡ 10 = grind arith in rw e refl)
      | inr a ↦
          elim (cases_Bool (eqb byte 9)) [
            | inl b ↦ (let e : byte ≡ 9 = grind arith in rw e refl)
            | inr b ↦
                elim (cases_Bool (eqb byte 13)) [
                  | inl c ↦ (let e : byte ≡ 13 = grind arith in rw e refl)
                  | inr c ↦
                      elim (cases_Bool (eqb byte 0)) [
                        | inl d ↦ (let e : byte ≡ 0 = grind arith in rw e refl)
                        | inr d ↦
                            elim (cases_Bool (eqb byte 92)) [
                              | inl f ↦ (let e : byte ≡ 92 = grind arith in rw e refl)
                              | inr f ↦
                                  elim (cases_Bool (eqb byte 39)) [
                                    | inl g ↦ (let e : byte ≡ 39 = grind arith in rw e refl)
                                    | inr g ↦ rw (a, b, c, d, f, g) refl
                                  ]
                            ]
                      ]
                ]
          ]
    ]

character_spelled : (byte : ℕ) → is_character (in_character byte) ≡ true → lexeme_kind (lexeme_of (Character byte)) ≡ Some (Character byte)
character_spelled byte e = cond-true (is_character (in_character byte)) _ _ e ∙ ap (λ b. Some (Character b)) (in_character_means byte)

all_mean : (bytes : List ℕ) → map character_meaning (map in_string bytes) ≡ bytes
all_mean [] = refl
all_mean (b ∷ bs) = ap (λ c. c ∷ map character_meaning (map in_string bs)) (in_string_means b) ∙ ap (λ cs. b ∷ cs) (all_mean bs)

all_stand : (bytes : List ℕ) → list_all (λ byte. is_string_character (in_string byte)) bytes ≡ true → list_all is_string_character (map in_string bytes) ≡ true
all_stand [] e = refl
all_stand (b ∷ bs) e =
    let both = and_parts (is_string_character (in_string b)) (list_all (λ byte. is_string_character (in_string byte)) bs) e in
    and_from (is_string_character (in_string b)) (list_all is_string_character (map in_string bs)) both.0 (all_stand bs both.1)

string_spelled : (bytes : List ℕ) → list_all (λ byte. is_string_character (in_string byte)) bytes ≡ true → lexeme_kind (lexeme_of (Str bytes)) ≡ Some (Str bytes)
string_spelled bytes e = cond-true (list_all is_string_character (map in_string bytes)) _ _ (all_stand bytes e) ∙ ap (λ bs. Some (Str bs)) (all_mean bytes)

-- ---- each kind

pub sayable_spelled : (k : PlainKind) → is_sayable k ≡ true → lexeme_kind (lexeme_of k) ≡ Some k
sayable_spelled (Name bytes) e = name_spelled bytes e
sayable_spelled (Int value) e = int_spelled value e
sayable_spelled (Long value) e = long_spelled value e
sayable_spelled (Character byte) e = character_spelled byte e
sayable_spelled (Str bytes) e = string_spelled bytes e
sayable_spelled (Keyword word) e = word_spelled word
sayable_spelled (Punctuator mark) e = mark_spelled mark
sayable_spelled Reserved e = false_is_true e
sayable_spelled Define e = false_is_true e

-- no token goes on in a blank or in LF
mark_quiet : (m : Mark) → (lexeme_goes_on (Sign (mark_bytes m)) 32 ≡ false) × (lexeme_goes_on (Sign (mark_bytes m)) 10 ≡ false)
unfolding mark_of mark_bytes
mark_quiet marks.OpenBracket = (refl, refl)
mark_quiet m = (refl, refl)

pub quiet : (k : PlainKind) → (lexeme_goes_on (lexeme_of k) 32 ≡ false) × (lexeme_goes_on (lexeme_of k) 10 ≡ false)
quiet (Punctuator mark) = mark_quiet mark
quiet (Name bytes) = (refl, refl)
quiet k = (refl, refl)
