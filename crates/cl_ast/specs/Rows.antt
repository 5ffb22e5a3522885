-- The longest rows of bytes at a place: of one kind, and of the characters of a literal. (ISO/IEC 9899:1999,
-- 6.4, paragraph 4.)
use Rattle.std.specs.Prelude.{ℕ, ◌+◌, ◌==◌, Bool, ◌&&◌, List, [], ◌∷◌, take, drop, Option, Some, None, if◌then◌else◌}
use Rattle.cl_ast.specs.Bytes.{is_x, is_digit, is_suffix, is_string_byte, is_escape, is_character_byte, is_character_escape, begins_with}
use Rattle.cl_ast.specs.Lexemes.{Spelled, Itself, Escape}

-- how many bytes at the front pass the test
abbrev pub run : (ℕ → Bool) → List ℕ → ℕ
run p [] = 0
run p (byte ∷ bytes) = if p byte then run p bytes + 1 else 0

-- the bytes at the front that pass
abbrev pub front_run : (ℕ → Bool) → List ℕ → List ℕ
front_run p bytes = take (run p bytes) bytes

-- the bytes behind them
abbrev pub after_run : (ℕ → Bool) → List ℕ → List ℕ
after_run p bytes = drop (run p bytes) bytes

-- the bytes behind the first
abbrev pub behind_first : List ℕ → List ℕ
behind_first [] = []
behind_first (byte ∷ bytes) = bytes

-- the characters of a string, up to a byte that can't stand in one
abbrev pub string_row : List ℕ → List Spelled
string_row [] = []
string_row (byte ∷ []) = if is_string_byte byte then Itself byte ∷ [] else []
string_row (byte ∷ next ∷ bytes) =
    if is_string_byte byte then Itself byte ∷ string_row (next ∷ bytes)
    else (if (byte == 92) && is_escape next then Escape next ∷ string_row bytes else [])

-- the bytes behind them
abbrev pub after_string_row : List ℕ → List ℕ
after_string_row [] = []
after_string_row (byte ∷ []) = if is_string_byte byte then [] else byte ∷ []
after_string_row (byte ∷ next ∷ bytes) =
    if is_string_byte byte then after_string_row (next ∷ bytes)
    else (if (byte == 92) && is_escape next then after_string_row bytes else byte ∷ next ∷ bytes)

-- the character of a character literal, and the bytes behind it
abbrev pub character_at : List ℕ → Option (Spelled × List ℕ)
character_at [] = None
character_at (byte ∷ []) = if is_character_byte byte then Some (Itself byte, []) else None
character_at (byte ∷ next ∷ bytes) =
    if is_character_byte byte then Some (Itself byte, next ∷ bytes)
    else (if (byte == 92) && is_character_escape next then Some (Escape next, bytes) else None)

-- the bytes behind `0x` or `0X`
abbrev pub after_prefix : List ℕ → Option (List ℕ)
after_prefix (byte ∷ x ∷ bytes) = if (byte == 48) && is_x x then Some bytes else None
after_prefix _ = None

-- the digits of a decimal number: a `0` stands alone
abbrev pub decimal_row : List ℕ → List ℕ
decimal_row bytes = if begins_with (λ byte. byte == 48) bytes then 48 ∷ [] else front_run is_digit bytes

-- the bytes behind a decimal number
abbrev pub after_decimal_row : List ℕ → List ℕ
after_decimal_row bytes = if begins_with (λ byte. byte == 48) bytes then behind_first bytes else after_run is_digit bytes

-- the suffix of a number, and the bytes behind it
abbrev pub suffix_row : List ℕ → List ℕ
suffix_row bytes = if begins_with is_suffix bytes then take 1 bytes else []

-- the bytes behind a suffix, if one is there
abbrev pub after_suffix : List ℕ → List ℕ
after_suffix bytes = if begins_with is_suffix bytes then behind_first bytes else bytes

-- the bytes behind the first `*/`
abbrev pub after_close : List ℕ → Option (List ℕ)
after_close [] = None
after_close (byte ∷ bytes) = if (byte == 42) && begins_with (λ b. b == 47) bytes then Some (behind_first bytes) else after_close bytes
