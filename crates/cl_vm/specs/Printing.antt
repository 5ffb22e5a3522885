-- How a text is printed piece by piece. (This project.)
use Rattle.std.specs.Prelude.{◌≡◌, ℕ, ◌+◌, ◌<◌, ◌≤◌, ◌==◌, if◌then◌else◌, List, [], ◌∷◌, ◌++◌, length, drop, Some, Bool, true, false, ℤ}
use Rattle.cl_code.specs.Formats.{Piece, Byte, Decimal, Character, pieces, count_of, printed}
use Rattle.cl_vm.specs.declared.output.PieceKind.{PieceKind}
use Rattle.cl_vm.specs.declared.output.PieceKind.TheVariants as kinds
use Rattle.cl_ground.specs.declared.limits.TheConstants.{MOST_PRINTED}

-- a piece as the definitions have it
abbrev pub plain_piece : PieceKind → Piece
plain_piece (kinds.Byte byte) = Byte byte
plain_piece kinds.Decimal = Decimal
plain_piece kinds.Character = Character

-- the piece that begins with these two bytes, where each `%` is followed as it must be; and how many bytes it has
abbrev pub kind_of : ℕ → ℕ → PieceKind
kind_of a b =
    if a == 37
    then (if b == 100 then kinds.Decimal else (if b == 99 then kinds.Character else (if b == 37 then kinds.Byte 37 else kinds.Decimal)))
    else kinds.Byte a

-- how many bytes of a text a piece is, by its first two
abbrev pub bytes_of : ℕ → ℕ → ℕ
bytes_of a b =
    if a == 37
    then (if b == 100 then 2 else (if b == 99 then 2 else (if b == 37 then 2 else 3)))
    else 1

-- the first byte, and the second; 0 where there is none
abbrev pub first_byte : List ℕ → ℕ
first_byte [] = 0
first_byte (a ∷ rest) = a

-- the second byte, if there is one
abbrev pub second_byte : List ℕ → ℕ
second_byte [] = 0
second_byte (a ∷ rest) = first_byte rest

-- the first piece of a text has so many bytes
abbrev pub IsFirst : List ℕ → Piece → ℕ → Type 0
IsFirst text piece count = (more : List Piece) × (pieces text ≡ Some (piece ∷ more)) × (pieces (drop count text) ≡ Some more) × (0 < count) × (count ≤ length text)

-- bytes were added, or would be too many
abbrev pub Added : List ℕ → Bool → List ℕ → List ℕ → Type 0
Added old true bytes new = (new ≡ old ++ bytes) × (length new ≤ MOST_PRINTED)
Added old false bytes new = (new ≡ old) × (MOST_PRINTED < length old + length bytes)

-- what was printed of a text, whose pieces are these, with these numbers
abbrev pub Prints : List ℕ → Bool → List ℕ → List ℕ → List ℤ → Type 0
Prints old done new text numbers = (all : List Piece) → pieces text ≡ Some all → Added old done (printed all numbers) new

-- the bytes of one piece, by the numbers that are left, and the numbers behind it
abbrev pub piece_bytes : PieceKind → List ℤ → List ℕ
piece_bytes piece numbers = printed (plain_piece piece ∷ []) numbers

-- how many numbers a piece takes
abbrev pub takes_of : PieceKind → ℕ
takes_of piece = count_of (plain_piece piece ∷ [])

-- in the middle of a text: so much was printed, and the rest of the text is to be printed with the numbers that are left
pub record PrintsOn (before now text rest : List ℕ) (numbers left : List ℤ) : Type 0 where
  pub more : List Piece
  pub is : pieces rest ≡ Some more
  pub enough : count_of more ≤ length left
  pub same : (all : List Piece) → pieces text ≡ Some all → now ++ printed more left ≡ before ++ printed all numbers
  pub few : length now ≤ MOST_PRINTED

-- in the middle of a text: so many numbers were counted
pub record CountsOn (text rest : List ℕ) (now : ℕ) : Type 0 where
  pub more : List Piece
  pub is : pieces rest ≡ Some more
  pub same : (all : List Piece) → pieces text ≡ Some all → now + count_of more ≡ count_of all
