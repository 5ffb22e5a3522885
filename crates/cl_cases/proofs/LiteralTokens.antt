-- The tokens of a source spell numbers that fit their types, and characters that are bytes.
use Rattle.std.proofs.Common.{◌≡◌, sym, subst, refl, ℕ, ◌+◌, Bool, true, false, not, ◌==◌, ◌&&◌, List, [], ◌∷◌, map, length, Option, Some, None, arith}
use Rattle.std.specs.Prelude.{if◌then◌else◌, nat_lt, nat_le, ◌^◌, option_map, pos}
use Rattle.std.specs.List.{AllByRecursion, list_all}
use Rattle.cl_ast.specs.declared.mark.Mark.{Mark}
use Rattle.cl_ast.specs.declared.word.Word.{Word}
use Rattle.cl_ast.specs.Plain.{PlainToken, PlainKind, Name, Str, Keyword, Reserved, Punctuator, Define}
use Rattle.cl_ast.specs.Plain as kinds
use Rattle.cl_ast.specs.Bytes.{is_x, is_character_byte, is_character_escape, escape_byte}
use Rattle.cl_ast.specs.Lexemes.{Lexeme, Letters, Decimal, Hexadecimal, Quoted, Text, Sign, Spelled, Itself, Escape, is_decimal, is_hexadecimal, is_a_suffix, value_on, number_kind, fits_long, is_character, is_string_character, character_meaning, lexeme_kind, is_letters, word_or, word_of, is_reserved, mark_of}
use Rattle.cl_ast.specs.Pieces.{Piece, Fills, Lexed, Includes, Defines, DefineLine, piece_spelling, minus_tokens, lexeme_tokens, define_tokens, piece_tokens, head_spelling}
use Rattle.cl_ast.specs.Splits.{Splits, tokens_of}
use Rattle.cl_ast.specs.Trees.{kind_constant}
use Rattle.cl_cases.specs.Literals.{constant_fits}
use Rattle.cl_cases.proofs.LiteralRules.{both_fit}
use Rattle.cl_cases.proofs.RangeVariables.{all_append}

-- the constant that it means as a literal fits
abbrev KindFits : PlainKind → Type 0
KindFits kind = constant_fits (kind_constant kind) ≡ true

abbrev pub TokenFits : PlainToken → Type 0
TokenFits t = KindFits t.kind

abbrev pub TokensFit : List PlainToken → Type 0
TokensFit ts = AllByRecursion TokenFits ts

-- ---- numbers

at_most_int : (n : ℕ) → nat_le n 2147483647 ≡ true → nat_lt n (2 ^ 31) ≡ true
at_most_int n h = grind (arith, h)

at_most_long : (n : ℕ) → nat_le n 9223372036854775807 ≡ true → nat_lt n (2 ^ 63) ≡ true
at_most_long n h = grind (arith, h)

number_fits : (n : ℕ) (suffix : List ℕ) → fits_long n ≡ true → KindFits (number_kind n suffix)
number_fits n [] h = by (nat_le n 2147483647) refl
  where
    by : (b : Bool) → nat_le n 2147483647 ≡ b → KindFits (if b then kinds.Int (pos n) else kinds.Long (pos n))
    by true small = at_most_int n small
    by false small = at_most_long n h
number_fits n (byte ∷ bytes) h = at_most_long n h

-- ---- characters

byte_fits : (byte : ℕ) → is_character_byte byte ≡ true → nat_lt byte 256 ≡ true
byte_fits byte h =
    let between = (both_fit (nat_le 32 byte && nat_le byte 126) (not (byte == 39) && not (byte == 92)) h).0 in
    small (both_fit (nat_le 32 byte) (nat_le byte 126) between).1
  where
    small : nat_le byte 126 ≡ true → nat_lt byte 256 ≡ true
    small k = grind (arith, k)

escape_fits : (letter : ℕ) → is_character_escape letter ≡ true → nat_lt (escape_byte letter) 256 ≡ true
escape_fits letter h = grind (arith, h)

character_fits : (c : Spelled) → is_character c ≡ true → nat_lt (character_meaning c) 256 ≡ true
character_fits (Itself byte) h = byte_fits byte h
character_fits (Escape letter) h = escape_fits letter h

-- ---- tokens

letters_fit : (o : Option Word) (reserved : Bool) (bytes : List ℕ) → KindFits (word_or o reserved bytes)
letters_fit (Some word) reserved bytes = refl
letters_fit None true bytes = refl
letters_fit None false bytes = refl

abbrev FitsIfAny : Option PlainKind → Type 0
FitsIfAny None = Unit {0}
FitsIfAny (Some kind) = KindFits kind

when : (b : Bool) (kind : PlainKind) → (b ≡ true → KindFits kind) → FitsIfAny (if b then Some kind else None)
when true kind h = h refl
when false kind h = tt

marks_fit : (o : Option Mark) → FitsIfAny (option_map (λ mark. Punctuator mark) o)
marks_fit None = tt
marks_fit (Some m) = refl

lexeme_fits : (l : Lexeme) → FitsIfAny (lexeme_kind l)
lexeme_fits (Letters bytes) = when (is_letters bytes) (word_or (word_of bytes) (is_reserved bytes) bytes) (λ h. letters_fit (word_of bytes) (is_reserved bytes) bytes)
lexeme_fits (Decimal digits suffix) =
    let n = value_on 10 0 digits in
    when (is_decimal digits && (is_a_suffix suffix && fits_long n)) (number_kind n suffix) (λ h.
    number_fits n suffix (both_fit (is_a_suffix suffix) (fits_long n) (both_fit (is_decimal digits) (is_a_suffix suffix && fits_long n) h).1).1)
lexeme_fits (Hexadecimal x digits suffix) =
    let n = value_on 16 0 digits in
    when (is_x x && (is_hexadecimal digits && (is_a_suffix suffix && fits_long n))) (number_kind n suffix) (λ h.
    number_fits n suffix (both_fit (is_a_suffix suffix) (fits_long n) (both_fit (is_hexadecimal digits) (is_a_suffix suffix && fits_long n) (both_fit (is_x x) (is_hexadecimal digits && (is_a_suffix suffix && fits_long n)) h).1).1).1)
lexeme_fits (Quoted c) = when (is_character c) (kinds.Character (character_meaning c)) (λ h. character_fits c h)
lexeme_fits (Text cs) = when (list_all is_string_character cs) (Str (map character_meaning cs)) (λ h. refl)
lexeme_fits (Sign bytes) = marks_fit (mark_of bytes)

lexeme_token_fits : (start : ℕ) (l : Lexeme) (o : Option PlainKind) → FitsIfAny o → TokensFit (lexeme_tokens start l o)
lexeme_token_fits start l None h = tt
lexeme_token_fits start l (Some kind) h = (h, tt)

minus_fits : (start : ℕ) (m : Option (List ℕ)) → TokensFit (minus_tokens start m)
minus_fits start None = tt
minus_fits start (Some blanks) = (refl, tt)

define_fits : (start : ℕ) (line : DefineLine) → TokensFit (define_tokens start line)
define_fits start line = (refl, (refl, all_append TokenFits _ _ (minus_fits _ line.minus) (lexeme_token_fits (start + length (head_spelling line)) line.literal (lexeme_kind line.literal) (lexeme_fits line.literal))))

piece_fits : (start : ℕ) (p : Piece) → TokensFit (piece_tokens start p)
piece_fits start (Fills f) = tt
piece_fits start (Lexed l) = lexeme_token_fits start l (lexeme_kind l) (lexeme_fits l)
piece_fits start (Includes line) = tt
piece_fits start (Defines line) = define_fits start line

pieces_fit : (start : ℕ) (ps : List Piece) → TokensFit (tokens_of start ps)
pieces_fit start [] = tt
pieces_fit start (p ∷ ps) = all_append TokenFits (piece_tokens start p) (tokens_of (start + length (piece_spelling p)) ps) (piece_fits start p) (pieces_fit (start + length (piece_spelling p)) ps)

pub tokens_fit : (source : List ℕ) (ts : List PlainToken) → Splits source ts → TokensFit ts
tokens_fit source ts s = subst TokensFit (sym s.tokens_are) (pieces_fit 0 s.pieces)
