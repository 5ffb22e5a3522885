-- Kinds of bytes. (ISO/IEC 9899:1999, 5.2.1 and 6.4; what a literal holds: this project.)
use Rattle.std.specs.Prelude.{ℕ, ◌==◌, ◌-◌, Bool, false, not, ◌||◌, ◌&&◌, nat_le, List, [], ◌∷◌, if◌then◌else◌}

-- whether a byte lies between two, these included
abbrev pub is_between : ℕ → ℕ → ℕ → Bool
is_between low high byte = nat_le low byte && nat_le byte high

-- LF, which ends a line
abbrev pub is_line_end : ℕ → Bool
is_line_end byte = byte == 10

-- space and tab
abbrev pub is_space : ℕ → Bool
is_space byte = (byte == 32) || (byte == 9)

-- what separates tokens inside a line: space, tab, vertical tab, form feed and CR
abbrev pub is_blank : ℕ → Bool
is_blank byte = (byte == 32) || ((byte == 9) || is_between 11 13 byte)

-- what separates tokens: the blanks and LF
abbrev pub is_separator : ℕ → Bool
is_separator byte = (byte == 32) || is_between 9 13 byte

-- a decimal digit
abbrev pub is_digit : ℕ → Bool
is_digit byte = is_between 48 57 byte

-- a digit, or a letter `A` to `F` of either case
abbrev pub is_hexadecimal_digit : ℕ → Bool
is_hexadecimal_digit byte = is_digit byte || (is_between 65 70 byte || is_between 97 102 byte)

-- a letter or `_`
abbrev pub is_letter : ℕ → Bool
is_letter byte = is_between 65 90 byte || (is_between 97 122 byte || (byte == 95))

-- a letter, a digit or `_`
abbrev pub is_name_byte : ℕ → Bool
is_name_byte byte = is_letter byte || is_digit byte

-- `x` or `X`
abbrev pub is_x : ℕ → Bool
is_x byte = (byte == 120) || (byte == 88)

-- `L` or `l`
abbrev pub is_suffix : ℕ → Bool
is_suffix byte = (byte == 76) || (byte == 108)

-- what a string holds as it is: tab, 0x20 to 0x7E other than `"` and `\`, and from 0x80
abbrev pub is_string_byte : ℕ → Bool
is_string_byte byte = (byte == 9) || ((is_between 32 126 byte && (not (byte == 34) && not (byte == 92))) || is_between 128 255 byte)

-- what a character literal holds as it is: 0x20 to 0x7E other than `'` and `\`
abbrev pub is_character_byte : ℕ → Bool
is_character_byte byte = is_between 32 126 byte && (not (byte == 39) && not (byte == 92))

-- the letters of the escapes `\n \t \r \\ \' \"`
abbrev pub is_escape : ℕ → Bool
is_escape letter = (letter == 110) || ((letter == 116) || ((letter == 114) || ((letter == 92) || ((letter == 39) || (letter == 34)))))

-- those of a character literal, which has `\0` besides
abbrev pub is_character_escape : ℕ → Bool
is_character_escape letter = (letter == 48) || is_escape letter

-- the byte that an escape means, by its letter
abbrev pub escape_byte : ℕ → ℕ
escape_byte letter =
    if letter == 110 then 10
    else (if letter == 116 then 9
    else (if letter == 114 then 13
    else (if letter == 48 then 0 else letter)))

-- the value of a digit of a base up to 16
abbrev pub digit_value : ℕ → ℕ
digit_value byte = if nat_le byte 57 then byte - 48 else (if nat_le byte 70 then byte - 55 else byte - 87)

-- whether the first byte, where there is one, passes the test
abbrev pub begins_with : (ℕ → Bool) → List ℕ → Bool
begins_with p [] = false
begins_with p (byte ∷ bytes) = p byte
