-- The texts of `printf`: their pieces, and what they print. (ISO/IEC 9899:1999, 7.19.6.1; which directives there are: this project.)
use Rattle.std.specs.Prelude.{ℕ, suc, ◌==◌, if◌then◌else◌, List, [], ◌∷◌, ◌++◌, ℤ, Option, Some, None, option_map}
use Rattle.std.specs.Fmt.{signed_decimal}
use Rattle.cl_model.specs.Numbers.{byte_of}

-- a byte as it is, or a directive: a number in decimal, or the byte of a number modulo 256
pub data Piece : Type 0 where
  Byte : (byte : ℕ) → Piece
  Decimal : Piece
  Character : Piece

-- The pieces of a text, or none where a `%` isn't followed by `d`, `ld`, `c` or `%`. `%` is 37, `d` 100, `l` 108, `c` 99.
abbrev pub pieces : List ℕ → Option (List Piece)
pieces [] = Some []
pieces (a ∷ []) = if a == 37 then None else Some (Byte a ∷ [])
pieces (a ∷ b ∷ []) =
    if a == 37
    then (if b == 100 then Some (Decimal ∷ [])
    else (if b == 99 then Some (Character ∷ [])
    else (if b == 37 then Some (Byte b ∷ [])
    else None)))
    else option_map (λ rest. Byte a ∷ rest) (pieces (b ∷ []))
pieces (a ∷ b ∷ c ∷ bytes) =
    if a == 37
    then (if b == 100 then option_map (λ rest. Decimal ∷ rest) (pieces (c ∷ bytes))
    else (if b == 99 then option_map (λ rest. Character ∷ rest) (pieces (c ∷ bytes))
    else (if b == 37 then option_map (λ rest. Byte b ∷ rest) (pieces (c ∷ bytes))
    else (if b == 108 then (if c == 100 then option_map (λ rest. Decimal ∷ rest) (pieces bytes) else None)
    else None))))
    else option_map (λ rest. Byte a ∷ rest) (pieces (b ∷ c ∷ bytes))

-- how many numbers the pieces print
abbrev pub count_of : List Piece → ℕ
count_of [] = 0
count_of (Byte byte ∷ rest) = count_of rest
count_of (Decimal ∷ rest) = suc (count_of rest)
count_of (Character ∷ rest) = suc (count_of rest)

-- the bytes of the pieces, with these numbers from left to right
abbrev pub printed : List Piece → List ℤ → List ℕ
printed (Byte byte ∷ rest) ns = byte ∷ printed rest ns
printed (Decimal ∷ rest) (n ∷ ns) = signed_decimal n ++ printed rest ns
printed (Character ∷ rest) (n ∷ ns) = byte_of n ∷ printed rest ns
printed _ _ = []

-- ---- by number

-- the pieces of a text, where there is one
abbrev pub pieces_or_none : Option (List ℕ) → Option (List Piece)
pieces_or_none (Some bytes) = pieces bytes
pieces_or_none None = None

-- of a text without pieces there is nothing to print
abbrev pub count_or_none : Option (List Piece) → ℕ
count_or_none (Some all) = count_of all
count_or_none None = 0
