-- A token that stands at the front is what a step reads.
use Rattle.std.proofs.Common.{◌≡◌, ℕ, ◌-◌, ◌≤◌, Bool, true, false, cond, eqb, List, [], ◌∷◌, ◌++◌, length, map, Option, Some, None, refl, sym, ap, ◌∙◌, inl, inr, ◌⊎◌, arith}
use Rattle.std.proofs.lemmas.Bool.{cases_Bool, and_parts, and_from, or_left, eqb-true, ne_eqb, cond-false}
use Rattle.std.proofs.lemmas.List.{length-append}
use Rattle.std.specs.Prelude.{is_some, option_map}
use Rattle.std.specs.List.{list_all}
use Rattle.cl_ast.specs.declared.mark.Mark.{Mark}
use Rattle.cl_ast.specs.Plain.{PlainKind, Character, Str, Punctuator, PlainToken}
use Rattle.cl_ast.specs.Bytes.{is_separator, is_blank, is_digit, is_letter, is_name_byte, is_x, begins_with}
use Rattle.cl_ast.specs.Lexemes.{Lexeme, Letters, Decimal, Hexadecimal, Quoted, Text, Sign, lexeme_spelling, lexeme_kind, lexeme_goes_on, mark_of, letters_kind, is_letters, is_decimal, is_hexadecimal, is_a_suffix, value_on, number_kind, is_character, is_string_character, character_meaning}
use Rattle.cl_ast.specs.Pieces.{lexeme_tokens, token_from, piece_tokens, Lexed}
use Rattle.cl_ast.specs.Rows.{front_run, after_run}
use Rattle.cl_ast.specs.Ends.{NoLiteral, Ends, literal_end}
use Rattle.cl_token.specs.Scanning.{Goes, token_between, literal_step, step_at}
use Rattle.cl_token.proofs.Runs.{front_whole, after_whole}
use Rattle.cl_token.proofs.CompleteBytes.{true_is_false, at_other, at_letter, digit_no_separator, digit_no_letter, digit_no_blank, digit_bound, token_is}
use Rattle.cl_token.proofs.CompleteLiterals.{decimal_again, hexadecimal_again, quoted_again, text_again}
use Rattle.cl_token.proofs.CompleteMarks.{sign_again}

none_is_some : {A : Type 0} (kind : PlainKind) → ◌≡◌ {A = Option PlainKind} None (Some kind) → A
none_is_some kind e = absurd cc

some_is : (x y : PlainKind) → ◌≡◌ {A = Option PlainKind} (Some x) (Some y) → x ≡ y
some_is x y e = cc

chosen : (b : Bool) (x y : PlainKind) → cond b (Some x) None ≡ Some y → (b ≡ true) × (x ≡ y)
chosen true x y e = (refl, some_is x y e)
chosen false x y e = none_is_some y e

-- whether the token is a number or a literal
abbrev pub is_literal : Lexeme → Bool
is_literal (Letters bytes) = false
is_literal (Sign bytes) = false
is_literal lexeme = true

pub literal_again : (lexeme : Lexeme) (kind : PlainKind) (rest : List ℕ) → is_literal lexeme ≡ true → lexeme_kind lexeme ≡ Some kind → begins_with (lexeme_goes_on lexeme) rest ≡ false → literal_end (lexeme_spelling lexeme ++ rest) ≡ Ends kind rest
literal_again (Letters bytes) kind rest l e longest = true_is_false (sym l)
literal_again (Sign bytes) kind rest l e longest = true_is_false (sym l)
literal_again (Decimal digits suffix) kind rest l e longest =
    let c = chosen _ (number_kind (value_on 10 0 digits) suffix) kind e in
    let p = and_parts (is_decimal digits) _ c.0 in
    let q = and_parts (is_a_suffix suffix) _ p.1 in
    decimal_again digits suffix rest p.0 q.0 q.1 longest ∙ ap (λ (k : PlainKind). Ends k rest) c.1
literal_again (Hexadecimal x digits suffix) kind rest l e longest =
    let c = chosen _ (number_kind (value_on 16 0 digits) suffix) kind e in
    let p = and_parts (is_x x) _ c.0 in
    let q = and_parts (is_hexadecimal digits) _ p.1 in
    let r = and_parts (is_a_suffix suffix) _ q.1 in
    hexadecimal_again x digits suffix rest p.0 q.0 r.0 r.1 longest ∙ ap (λ (k : PlainKind). Ends k rest) c.1
literal_again (Quoted character) kind rest l e longest =
    let c = chosen (is_character character) (Character (character_meaning character)) kind e in
    quoted_again character rest c.0 ∙ ap (λ (k : PlainKind). Ends k rest) c.1
literal_again (Text characters) kind rest l e longest =
    let c = chosen (list_all is_string_character characters) (Str (map character_meaning characters)) kind e in
    text_again characters rest c.0 ∙ ap (λ (k : PlainKind). Ends k rest) c.1

none_is_end : {A : Type 0} (kind : PlainKind) (rest : List ℕ) → NoLiteral ≡ Ends kind rest → A
none_is_end kind rest e = absurd cc

-- where a number or a literal begins there is no separator, no letter, no blank and no minus
pub record NoOther (byte : ℕ) : Type 0 where
  pub separator : is_separator byte ≡ false
  pub letter : is_letter byte ≡ false
  pub blank : is_blank byte ≡ false
  pub minus : eqb byte 45 ≡ false

quote_other : (byte : ℕ) → (byte ≡ 39) ⊎ (byte ≡ 34) → NoOther byte
quote_other byte (inl is) = record { separator = ap is_separator is; letter = ap is_letter is; blank = ap is_blank is; minus = ap (λ (b : ℕ). eqb b 45) is }
quote_other byte (inr is) = record { separator = ap is_separator is; letter = ap is_letter is; blank = ap is_blank is; minus = ap (λ (b : ℕ). eqb b 45) is }

pub literal_begins : (byte : ℕ) (bytes : List ℕ) (kind : PlainKind) (rest : List ℕ) → literal_end (byte ∷ bytes) ≡ Ends kind rest → NoOther byte
literal_begins byte bytes kind rest e =
    elim (cases_Bool (is_digit byte)) [
      | inl d ↦
          let h = digit_bound byte d in
          record { separator = digit_no_separator byte d; letter = digit_no_letter byte d; blank = digit_no_blank byte d; minus = ne_eqb byte 45 (λ e. omega arith) }
      | inr no_digit ↦
          elim (cases_Bool (eqb byte 39)) [
            | inl q ↦ quote_other byte (inl (eqb-true byte 39 q))
            | inr no_quote ↦
                elim (cases_Bool (eqb byte 34)) [
                  | inl q ↦ quote_other byte (inr (eqb-true byte 34 q))
                  | inr no_quotes ↦ none_is_end kind rest (sym (cond-false (is_digit byte) _ _ no_digit ∙ cond-false (eqb byte 39) _ _ no_quote ∙ cond-false (eqb byte 34) _ _ no_quotes) ∙ e)
                ]
          ]
    ]

at_literal : (total : ℕ) (tokens : List PlainToken) (fresh : Bool) (bytes : List ℕ) (kind : PlainKind) (rest : List ℕ) → literal_end bytes ≡ Ends kind rest → step_at total tokens fresh bytes ≡ Goes (tokens ++ token_between total kind bytes rest ∷ []) false rest
at_literal total tokens fresh [] kind rest e = none_is_end kind rest e
at_literal total tokens fresh (byte ∷ bytes) kind rest e =
    let n = literal_begins byte bytes kind rest e in
    at_other total tokens fresh byte bytes n.separator n.letter
    ∙ ap (literal_step total tokens fresh byte bytes) e

word_again : (total : ℕ) (tokens : List PlainToken) (fresh : Bool) (bytes rest : List ℕ) → is_letters bytes ≡ true → begins_with is_name_byte rest ≡ false → step_at total tokens fresh (bytes ++ rest) ≡ Goes (tokens ++ token_between total (letters_kind bytes) (bytes ++ rest) rest ∷ []) false rest
word_again total tokens fresh [] rest form longest = true_is_false (sym form)
word_again total tokens fresh (byte ∷ bytes) rest form longest =
    let both = and_parts (is_letter byte) (list_all is_name_byte bytes) form in
    let all : list_all is_name_byte (byte ∷ bytes) ≡ true = and_from (is_name_byte byte) (list_all is_name_byte bytes) (or_left (is_letter byte) (is_digit byte) both.0) both.1 in
    let whole = (byte ∷ bytes) ++ rest in
    let front : front_run is_name_byte whole ≡ byte ∷ bytes = front_whole is_name_byte (byte ∷ bytes) rest all longest in
    let after : after_run is_name_byte whole ≡ rest = after_whole is_name_byte (byte ∷ bytes) rest all longest in
    at_letter total tokens fresh byte (bytes ++ rest) both.0
    ∙ ap (λ (x : List ℕ). Goes (tokens ++ token_between total (letters_kind x) whole (after_run is_name_byte whole) ∷ []) false (after_run is_name_byte whole)) front
    ∙ ap (λ (x : List ℕ). Goes (tokens ++ token_between total (letters_kind (byte ∷ bytes)) whole x ∷ []) false x) after

sign_kind : (found : Option Mark) (kind : PlainKind) → option_map (λ mark. Punctuator mark) found ≡ Some kind → (mark : Mark) × (found ≡ Some mark) × (Punctuator mark ≡ kind)
sign_kind None kind e = none_is_some kind e
sign_kind (Some mark) kind e = (mark, refl, some_is (Punctuator mark) kind e)

lexed_literal : (total : ℕ) (tokens : List PlainToken) (fresh : Bool) (lexeme : Lexeme) (kind : PlainKind) (rest : List ℕ) → is_literal lexeme ≡ true → lexeme_kind lexeme ≡ Some kind → begins_with (lexeme_goes_on lexeme) rest ≡ false → step_at total tokens fresh (lexeme_spelling lexeme ++ rest) ≡ Goes (tokens ++ token_between total kind (lexeme_spelling lexeme ++ rest) rest ∷ []) false rest
lexed_literal total tokens fresh lexeme kind rest l e longest = at_literal total tokens fresh (lexeme_spelling lexeme ++ rest) kind rest (literal_again lexeme kind rest l e longest)

lexed_between : (total : ℕ) (tokens : List PlainToken) (fresh : Bool) (lexeme : Lexeme) (kind : PlainKind) (rest : List ℕ) → lexeme_kind lexeme ≡ Some kind → begins_with (lexeme_goes_on lexeme) rest ≡ false → step_at total tokens fresh (lexeme_spelling lexeme ++ rest) ≡ Goes (tokens ++ token_between total kind (lexeme_spelling lexeme ++ rest) rest ∷ []) false rest
lexed_between total tokens fresh (Letters bytes) kind rest e longest =
    let c = chosen (is_letters bytes) (letters_kind bytes) kind e in
    word_again total tokens fresh bytes rest c.0 longest
    ∙ ap (λ (k : PlainKind). Goes (tokens ++ token_between total k (bytes ++ rest) rest ∷ []) false rest) c.1
lexed_between total tokens fresh (Sign bytes) kind rest e longest =
    let c = sign_kind (mark_of bytes) kind e in
    sign_again total tokens fresh bytes rest c.0 c.1 longest
    ∙ ap (λ (k : PlainKind). Goes (tokens ++ token_between total k (bytes ++ rest) rest ∷ []) false rest) c.2
lexed_between total tokens fresh (Decimal digits suffix) kind rest e longest = lexed_literal total tokens fresh (Decimal digits suffix) kind rest refl e longest
lexed_between total tokens fresh (Hexadecimal x digits suffix) kind rest e longest = lexed_literal total tokens fresh (Hexadecimal x digits suffix) kind rest refl e longest
lexed_between total tokens fresh (Quoted character) kind rest e longest = lexed_literal total tokens fresh (Quoted character) kind rest refl e longest
lexed_between total tokens fresh (Text characters) kind rest e longest = lexed_literal total tokens fresh (Text characters) kind rest refl e longest

kind_of : (found : Option PlainKind) → is_some found ≡ true → (kind : PlainKind) × (found ≡ Some kind)
kind_of None e = true_is_false (sym e)
kind_of (Some kind) e = (kind, refl)

pub lexed : (total : ℕ) (tokens : List PlainToken) (fresh : Bool) (lexeme : Lexeme) (rest : List ℕ) → length (lexeme_spelling lexeme ++ rest) ≤ total → is_some (lexeme_kind lexeme) ≡ true → begins_with (lexeme_goes_on lexeme) rest ≡ false → step_at total tokens fresh (lexeme_spelling lexeme ++ rest) ≡ Goes (tokens ++ piece_tokens (total - length (lexeme_spelling lexeme ++ rest)) (Lexed lexeme)) false rest
lexed total tokens fresh lexeme rest long form longest =
    let k = kind_of (lexeme_kind lexeme) form in
    let start = total - length (lexeme_spelling lexeme ++ rest) in
    let same : token_between total k.0 (lexeme_spelling lexeme ++ rest) rest ≡ token_from start k.0 (lexeme_spelling lexeme) =
    token_is total start k.0 (lexeme_spelling lexeme ++ rest) (lexeme_spelling lexeme) rest long refl (length-append (lexeme_spelling lexeme) rest) in
    lexed_between total tokens fresh lexeme k.0 rest k.1 longest
    ∙ ap (λ (t : PlainToken). Goes (tokens ++ t ∷ []) false rest) same
    ∙ ap (λ (o : Option PlainKind). Goes (tokens ++ lexeme_tokens start lexeme o) false rest) (sym k.1)
