-- The tokens by their spelling: words, numbers, character and string literals, marks. (ISO/IEC 9899:1999,
-- 6.4.1, 6.4.2, 6.4.4, 6.4.5 and 6.4.6; which of C's there are: this project.)
use Rattle.std.specs.Prelude.{ℕ, pos, ◌+◌, ◌*◌, ◌==◌, Bool, true, false, not, ◌||◌, ◌&&◌, nat_le, List, [], ◌∷◌, ◌++◌, map, Option, Some, None, option_map, is_some, if◌then◌else◌}
use Rattle.std.specs.List.{list_all, list_any}
use Rattle.cl_ast.specs.declared.word.Word.{Word}
use Rattle.cl_ast.specs.declared.mark.Mark.{Mark}
use Rattle.cl_ast.specs.declared.word.TheConstants.{WORDS, RESERVED}
use Rattle.cl_ast.specs.declared.mark.TheConstants.{MARKS}
use Rattle.cl_ast.specs.Plain.{PlainKind, Name, Int, Long, Character, Str, Keyword, Reserved, Punctuator}
use Rattle.cl_ast.specs.Bytes.{is_digit, is_hexadecimal_digit, is_letter, is_name_byte, is_x, is_suffix, is_string_byte, is_character_byte, is_escape, is_character_escape, escape_byte, digit_value, begins_with}

-- a character of a literal: a byte as it is, or the letter of an escape
pub data Spelled : Type 0 where
  Itself : (byte : ℕ) → Spelled
  Escape : (letter : ℕ) → Spelled

-- a token as it is spelled; of a number the suffix is a list of at most one byte
pub data Lexeme : Type 0 where
  Letters : (bytes : List ℕ) → Lexeme
  Decimal : (digits suffix : List ℕ) → Lexeme
  Hexadecimal : (x : ℕ) (digits suffix : List ℕ) → Lexeme
  Quoted : (character : Spelled) → Lexeme
  Text : (characters : List Spelled) → Lexeme
  Sign : (bytes : List ℕ) → Lexeme

-- the bytes of a character of a literal
abbrev pub character_spelling : Spelled → List ℕ
character_spelling (Itself byte) = byte ∷ []
character_spelling (Escape letter) = 92 ∷ letter ∷ []

-- the bytes that spell some characters
abbrev pub characters_spelling : List Spelled → List ℕ
characters_spelling [] = []
characters_spelling (c ∷ cs) = character_spelling c ++ characters_spelling cs

-- the byte that it means
abbrev pub character_meaning : Spelled → ℕ
character_meaning (Itself byte) = byte
character_meaning (Escape letter) = escape_byte letter

-- the bytes of a token
abbrev pub lexeme_spelling : Lexeme → List ℕ
lexeme_spelling (Letters bytes) = bytes
lexeme_spelling (Decimal digits suffix) = digits ++ suffix
lexeme_spelling (Hexadecimal x digits suffix) = 48 ∷ x ∷ (digits ++ suffix)
lexeme_spelling (Quoted character) = 39 ∷ (character_spelling character ++ 39 ∷ [])
lexeme_spelling (Text characters) = 34 ∷ (characters_spelling characters ++ 34 ∷ [])
lexeme_spelling (Sign bytes) = bytes

-- whether two lists of bytes are the same
abbrev pub same_bytes : List ℕ → List ℕ → Bool
same_bytes [] [] = true
same_bytes (x ∷ xs) (y ∷ ys) = (x == y) && same_bytes xs ys
same_bytes _ _ = false

-- the entry of a table with these bytes
abbrev pub look_up : {A : Type 0} → List (List ℕ × A) → List ℕ → Option A
look_up [] bytes = None
look_up (entry ∷ entries) bytes = if same_bytes bytes entry.0 then Some entry.1 else look_up entries bytes

-- the word of the grammar with these bytes
unfoldable pub word_of : List ℕ → Option Word
word_of bytes = look_up (map (λ w. (w.0.now, w.1)) WORDS) bytes

-- whether C reserves the bytes besides
unfoldable pub is_reserved : List ℕ → Bool
is_reserved bytes = list_any (same_bytes bytes) (map (λ w. w.now) RESERVED)

-- the mark with these bytes
unfoldable pub mark_of : List ℕ → Option Mark
mark_of bytes = look_up (map (λ m. (m.0.now, m.1)) MARKS) bytes

-- whether the bytes are a letter or `_`, and then letters, digits and `_`
abbrev pub is_letters : List ℕ → Bool
is_letters [] = false
is_letters (byte ∷ bytes) = is_letter byte && list_all is_name_byte bytes

-- the token of such bytes: a word of the grammar, one that C reserves, or a name
abbrev pub word_or : Option Word → Bool → List ℕ → PlainKind
word_or (Some word) reserved bytes = Keyword word
word_or None reserved bytes = if reserved then Reserved else Name bytes

-- what letters are: a word, a reserved word, or else a name
abbrev pub letters_kind : List ℕ → PlainKind
letters_kind bytes = word_or (word_of bytes) (is_reserved bytes) bytes

-- `0`, or a digit 1 to 9 and digits
abbrev pub is_decimal : List ℕ → Bool
is_decimal [] = false
is_decimal (digit ∷ digits) = if digit == 48 then not (begins_with (λ byte. true) digits) else is_digit digit && list_all is_digit digits

-- at least one hexadecimal digit, and nothing else
abbrev pub is_hexadecimal : List ℕ → Bool
is_hexadecimal [] = false
is_hexadecimal (digit ∷ digits) = is_hexadecimal_digit digit && list_all is_hexadecimal_digit digits

-- nothing, `L` or `l`
abbrev pub is_a_suffix : List ℕ → Bool
is_a_suffix [] = true
is_a_suffix (byte ∷ []) = is_suffix byte
is_a_suffix _ = false

-- the number that digits of a base stand for, behind those that were read
abbrev pub value_on : ℕ → ℕ → List ℕ → ℕ
value_on base value [] = value
value_on base value (digit ∷ digits) = value_on base (base * value + digit_value digit) digits

-- the token of a value: of type `int` up to 2147483647 without a suffix, else of type `long`
abbrev pub number_kind : ℕ → List ℕ → PlainKind
number_kind value [] = if nat_le value 2147483647 then Int (pos value) else Long (pos value)
number_kind value (byte ∷ bytes) = Long (pos value)

-- whether a `long` has the value
abbrev pub fits_long : ℕ → Bool
fits_long value = nat_le value 9223372036854775807

-- whether a string may hold it, and whether a character literal may
abbrev pub is_string_character : Spelled → Bool
is_string_character (Itself byte) = is_string_byte byte
is_string_character (Escape letter) = is_escape letter

abbrev pub is_character : Spelled → Bool
is_character (Itself byte) = is_character_byte byte
is_character (Escape letter) = is_character_escape letter

-- the token, where the spelling is one
abbrev pub lexeme_kind : Lexeme → Option PlainKind
lexeme_kind (Letters bytes) = if is_letters bytes then Some (letters_kind bytes) else None
lexeme_kind (Decimal digits suffix) = if is_decimal digits && (is_a_suffix suffix && fits_long (value_on 10 0 digits)) then Some (number_kind (value_on 10 0 digits) suffix) else None
lexeme_kind (Hexadecimal x digits suffix) = if is_x x && (is_hexadecimal digits && (is_a_suffix suffix && fits_long (value_on 16 0 digits))) then Some (number_kind (value_on 16 0 digits) suffix) else None
lexeme_kind (Quoted character) = if is_character character then Some (Character (character_meaning character)) else None
lexeme_kind (Text characters) = if list_all is_string_character characters then Some (Str (map character_meaning characters)) else None
lexeme_kind (Sign bytes) = option_map (λ mark. Punctuator mark) (mark_of bytes)

-- `/`, which begins a comment before `/` or `*`
abbrev pub opens_comment : List ℕ → ℕ → Bool
opens_comment bytes byte = same_bytes bytes (47 ∷ []) && ((byte == 47) || (byte == 42))

-- whether a token would go on in this byte: the longest that fits is taken
abbrev pub lexeme_goes_on : Lexeme → ℕ → Bool
lexeme_goes_on (Letters bytes) byte = is_name_byte byte
lexeme_goes_on (Decimal digits suffix) byte = is_name_byte byte
lexeme_goes_on (Hexadecimal x digits suffix) byte = is_name_byte byte
lexeme_goes_on (Quoted character) byte = false
lexeme_goes_on (Text characters) byte = false
lexeme_goes_on (Sign bytes) byte = is_some (mark_of (bytes ++ byte ∷ [])) || opens_comment bytes byte
