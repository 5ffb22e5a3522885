-- The tuples of a keyed store: a list for each key. (This project.)
use Rattle.std.specs.Prelude.{◌≡◌, ℕ, zero, suc, Bool, ◌==◌, ◌≤◌, List, [], ◌∷◌, ◌++◌, length, map, filter}
use Rattle.cl_ground.specs.Room.{Room}
use Rattle.cl_value.specs.declared.value.Value.{Value}
use Rattle.cl_keyed.specs.Keys.{has_key}
use Rattle.cl_keyed.specs.declared.key.Key.{Key}

-- a tuple with its number: how many tuples were added before it
pub record Row : Type 0 where
  pub number : ℕ
  pub tuple : List Value

-- the tuple of a row
abbrev pub tuple_of : Row → List Value
tuple_of r = r.tuple

-- whether a row has this number
abbrev pub has_number : ℕ → Row → Bool
has_number n r = r.number == n

-- whether a row has this key at a field
abbrev pub row_has : ℕ → Key → Row → Bool
row_has field k r = has_key field k r.tuple

-- the rows with a number below n, by rising number
abbrev pub by_number : ℕ → List Row → List Row
by_number zero rows = []
by_number (suc n) rows = by_number n rows ++ filter (has_number n) rows

-- the rows of all keys, list after list
abbrev pub all_rows : List (Key × Room Row) → List Row
all_rows [] = []
all_rows (line ∷ lines) = line.1.items ++ all_rows lines

-- the tuples in order of adding, where the next has the number n
abbrev pub content_of : ℕ → List (Key × Room Row) → List (List Value)
content_of n lines = map tuple_of (by_number n (all_rows lines))

-- what holds of the list of a key: its rows have the key, and stand by rising number
pub record LineHolds (field n : ℕ) (line : Key × Room Row) : Type 0 where
  pub keyed : filter (row_has field line.0) line.1.items ≡ line.1.items
  pub ordered : by_number n line.1.items ≡ line.1.items

-- it holds of the list of each key
abbrev pub EachHolds : ℕ → ℕ → List (Key × Room Row) → Type 0
EachHolds field n [] = Unit {0}
EachHolds field n (line ∷ lines) = LineHolds field n line × EachHolds field n lines

-- what holds of the lists of all keys: no two rows have one number, and none has n or more
pub record Holds (field n : ℕ) (lines : List (Key × Room Row)) : Type 0 where
  pub each : EachHolds field n lines
  pub below : (i : ℕ) → n ≤ i → filter (has_number i) (all_rows lines) ≡ []
  pub single : (i : ℕ) → length (filter (has_number i) (all_rows lines)) ≤ 1
