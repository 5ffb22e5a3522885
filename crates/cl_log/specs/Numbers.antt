-- A number as a few bytes, seven bits in each, the least first. (This project's own; such numbers stand in many formats of files.)
use Rattle.std.specs.Prelude.{ℕ, zero, suc, ◌+◌, ◌-◌, ◌*◌, ◌/◌, ◌%◌, ◌^◌, nat_lt, ◌==◌, if◌then◌else◌, List, [], ◌∷◌, ℤ, pos, negsuc}

-- the groups of seven bits of a number: each but the last has 128 added. At most so many follow the first
unfoldable pub groups : ℕ → ℕ → List ℕ
groups zero n = (n % 128) ∷ []
groups (suc more) n = if nat_lt n 128 then n ∷ [] else (n % 128 + 128) ∷ groups more (n / 128)

-- a number of 64 bits
unfoldable pub number : ℕ → List ℕ
number n = groups 9 n

-- a number with a group below it
abbrev pub with_group : ℕ → ℕ × List ℕ → ℕ × List ℕ
with_group byte read = ((byte - 128 + 128 * read.0) % 2 ^ 64, read.1)

-- the number with which bytes begin, and the bytes behind it
unfoldable pub number_at : List ℕ → ℕ × List ℕ
number_at [] = (0, [])
number_at (byte ∷ bytes) = if nat_lt byte 128 then (byte, bytes) else with_group byte (number_at bytes)

-- a signed number without a sign: twice the number, or for -1 - n one more than twice n
abbrev pub unsigned : ℤ → ℕ
unsigned (pos n) = 2 * n
unsigned (negsuc n) = 2 * n + 1

-- and with its sign again
abbrev pub signed : ℕ → ℤ
signed n = if n % 2 == 0 then pos (n / 2) else negsuc (n / 2)
