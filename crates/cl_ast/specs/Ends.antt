-- How a number, a literal, a comment or a line with `#` ends that begins at a place: as it should, or by a
-- fault. (ISO/IEC 9899:1999, 6.4.4, 6.4.5 and 6.4.9; the faults and their places: this project.)
use Rattle.std.specs.Prelude.{ℕ, ◌==◌, Bool, true, not, ◌||◌, ◌&&◌, List, [], ◌∷◌, map, Option, Some, None, codes, if◌then◌else◌}
use Rattle.cl_ast.specs.declared.fault.LexKind.{LexKind}
use Rattle.cl_ast.specs.declared.fault.LexKind.TheVariants as faults
use Rattle.cl_ast.specs.Plain.{PlainKind, Character, Str}
use Rattle.cl_ast.specs.Bytes.{is_line_end, is_blank, is_space, is_digit, is_hexadecimal_digit, is_name_byte, begins_with}
use Rattle.cl_ast.specs.Lexemes.{Spelled, character_meaning, same_bytes, value_on, fits_long, number_kind}
use Rattle.cl_ast.specs.Pieces.{is_name, is_literal_kind}
use Rattle.cl_ast.specs.Rows.{front_run, after_run, behind_first, string_row, after_string_row, character_at, after_prefix, decimal_row, after_decimal_row, suffix_row, after_suffix}

-- a token and the bytes behind it, or a fault and the bytes from its place
pub data LiteralEnd : Type 0 where
  NoLiteral : LiteralEnd
  Ends : (kind : PlainKind) (rest : List ℕ) → LiteralEnd
  Fails : (fault : LexKind) (bad : List ℕ) → LiteralEnd

-- whether the line or the source ends here
abbrev pub is_line_cut : List ℕ → Bool
is_line_cut [] = true
is_line_cut (byte ∷ bytes) = is_line_end byte

-- whether it ends here or behind a backslash
abbrev pub is_cut : List ℕ → Bool
is_cut [] = true
is_cut (byte ∷ bytes) = is_line_end byte || ((byte == 92) && is_line_cut bytes)

-- the byte that can't stand here: that behind a backslash, where there is one
abbrev pub bad_of : List ℕ → List ℕ
bad_of [] = []
bad_of (byte ∷ bytes) = if byte == 92 then bytes else byte ∷ bytes

-- a number behind its digits, of this value
abbrev pub behind_digits : List ℕ → ℕ → List ℕ → LiteralEnd
behind_digits bytes value behind =
    if not (fits_long value) then Fails faults.WideLiteral bytes
    else (if begins_with is_name_byte (after_suffix behind) then Fails faults.BadByte (after_suffix behind)
    else Ends (number_kind value (suffix_row behind)) (after_suffix behind))

-- a number that begins with `0x`, behind it
abbrev pub hexadecimal_end : List ℕ → List ℕ → LiteralEnd
hexadecimal_end bytes digits =
    if begins_with is_hexadecimal_digit digits then behind_digits bytes (value_on 16 0 (front_run is_hexadecimal_digit digits)) (after_run is_hexadecimal_digit digits)
    else Fails faults.BadByte digits

abbrev pub decimal_end : List ℕ → LiteralEnd
decimal_end bytes = behind_digits bytes (value_on 10 0 (decimal_row bytes)) (after_decimal_row bytes)

-- a number that begins here
abbrev pub based_end : List ℕ → Option (List ℕ) → LiteralEnd
based_end bytes (Some digits) = hexadecimal_end bytes digits
based_end bytes None = decimal_end bytes

-- how a number that begins here ends
abbrev pub number_end : List ℕ → LiteralEnd
number_end bytes = based_end bytes (after_prefix bytes)

-- a string behind its opening quote: it ends by its closing quote
abbrev pub string_end : List ℕ → List ℕ → LiteralEnd
string_end bytes more =
    let behind = after_string_row more in
    if begins_with (λ byte. byte == 34) behind then Ends (Str (map character_meaning (string_row more))) (behind_first behind)
    else (if is_cut behind then Fails faults.OpenString bytes else Fails faults.BadByte (bad_of behind))

-- a character literal behind its opening quote and its character
abbrev pub character_end_behind : List ℕ → List ℕ → Option (Spelled × List ℕ) → LiteralEnd
character_end_behind bytes more None = if is_cut more then Fails faults.OpenString bytes else Fails faults.BadByte (bad_of more)
character_end_behind bytes more (Some x) =
    if begins_with (λ byte. byte == 39) x.1 then Ends (Character (character_meaning x.0)) (behind_first x.1)
    else (if is_line_cut x.1 then Fails faults.OpenString bytes else Fails faults.BadByte x.1)

-- how a character behind its opening quote ends
abbrev pub character_end : List ℕ → List ℕ → LiteralEnd
character_end bytes more = character_end_behind bytes more (character_at more)

-- a number or a literal of either quote that begins here
abbrev pub literal_end : List ℕ → LiteralEnd
literal_end [] = NoLiteral
literal_end (byte ∷ more) =
    if is_digit byte then number_end (byte ∷ more)
    else (if byte == 39 then character_end (byte ∷ more) more
    else (if byte == 34 then string_end (byte ∷ more) more else NoLiteral))

-- how a line with `#` ends: at its LF, by a fault of its own, or it has none of the forms
pub data LineEnd : Type 0 where
  LineEnds : (rest : List ℕ) → LineEnd
  LineFails : (fault : LexKind) (bad : List ℕ) → LineEnd
  NoLine : LineEnd

-- blanks and comments up to LF or the end, inside a comment that begins at the bytes that are given, or
-- outside all
abbrev pub tail_on : Option (List ℕ) → List ℕ → LineEnd
tail_on None [] = LineEnds []
tail_on None (byte ∷ []) = if is_line_end byte then LineEnds (byte ∷ []) else (if is_blank byte then LineEnds [] else NoLine)
tail_on None (byte ∷ next ∷ bytes) =
    if is_line_end byte then LineEnds (byte ∷ next ∷ bytes)
    else (if is_blank byte then tail_on None (next ∷ bytes)
    else (if (byte == 47) && (next == 47) then LineEnds (after_run (λ b. not (is_line_end b)) bytes)
    else (if (byte == 47) && (next == 42) then tail_on (Some (byte ∷ next ∷ bytes)) bytes else NoLine)))
tail_on (Some start) [] = LineFails faults.OpenComment start
tail_on (Some start) (byte ∷ []) = LineFails faults.OpenComment start
tail_on (Some start) (byte ∷ next ∷ bytes) = if (byte == 42) && (next == 47) then tail_on None bytes else tail_on (Some start) (next ∷ bytes)

-- how a define line ends behind its literal, where blanks and comments alone may stand
unfoldable pub tail_end : List ℕ → LineEnd
tail_end bytes = tail_on None bytes

-- the bytes behind a `-` with its blanks, where there is one
abbrev pub after_minus : List ℕ → List ℕ
after_minus bytes = if begins_with (λ byte. byte == 45) bytes then after_run is_blank (behind_first bytes) else bytes

-- where the literal of a line belongs, behind the word `define`
abbrev pub literal_place : List ℕ → Option (List ℕ)
literal_place bytes =
    let named = after_run is_blank bytes in
    let behind = after_run is_name_byte named in
    if begins_with is_blank bytes && (is_name (front_run is_name_byte named) && begins_with is_blank behind) then Some (after_minus (after_run is_blank behind)) else None

-- a line behind what ends its literal's place: a wide number and an open literal have their own fault
abbrev pub behind_literal : LiteralEnd → LineEnd
behind_literal NoLiteral = NoLine
behind_literal (Ends kind rest) = if is_literal_kind (Some kind) then tail_end rest else NoLine
behind_literal (Fails faults.WideLiteral bad) = LineFails faults.WideLiteral bad
behind_literal (Fails faults.OpenString bad) = LineFails faults.OpenString bad
behind_literal (Fails fault bad) = NoLine

abbrev pub placed_end : Option (List ℕ) → LineEnd
placed_end None = NoLine
placed_end (Some place) = behind_literal (literal_end place)

-- a line that defines, behind the word `define`
abbrev pub define_end : List ℕ → LineEnd
define_end bytes = placed_end (literal_place bytes)

-- a line by its word and the bytes behind it
abbrev pub word_end : List ℕ → List ℕ → LineEnd
word_end word behind =
    if same_bytes word (codes "include") then LineEnds (after_run (λ byte. not (is_line_end byte)) behind)
    else (if same_bytes word (codes "define") then define_end behind else NoLine)

-- a line behind its `#`
abbrev pub line_end : List ℕ → LineEnd
line_end bytes =
    let word = after_run is_space bytes in
    word_end (front_run is_name_byte word) (after_run is_name_byte word)
