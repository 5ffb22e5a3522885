-- What contracts see of the table of a keyed store. (This project.)
use Rattle.std.specs.Prelude.{◌≡◌, ℕ, zero, suc, ◌<◌, false, List, [], ◌∷◌, ◌++◌, length, map, filter, Option, Some, None}
use Rattle.cl_value.specs.Replay.{first_match}
use Rattle.cl_ground.specs.Room.{Room}
use Rattle.cl_value.specs.declared.template.Slot.{Slot}
use Rattle.cl_value.specs.declared.value.Value.{Value}
use Rattle.cl_keyed.specs.Keys.{same_key, has_key, asked_at}
use Rattle.cl_keyed.specs.Rows.{Row, tuple_of}
use Rattle.cl_keyed.specs.declared.key.Key.{Key}

-- the lists with their keys, and for how many more keys there is room
pub record Lines : Type 0 where
  pub lines : List (Key × Room Row)
  pub spare : ℕ

-- no list is of this key
abbrev pub Others : Key → List (Key × Room Row) → Type 0
Others k [] = Unit {0}
Others k (line ∷ lines) = (same_key k line.0 ≡ false) × Others k lines

-- the rows of the list at a place, or none
abbrev pub items_at : List (Key × Room Row) → ℕ → List Row
items_at [] i = []
items_at (line ∷ lines) zero = line.1.items
items_at (line ∷ lines) (suc i) = items_at lines i

-- for how many more rows the list at a place has room, or for none
abbrev pub spare_at : List (Key × Room Row) → ℕ → ℕ
spare_at [] i = 0
spare_at (line ∷ lines) zero = line.1.spare
spare_at (line ∷ lines) (suc i) = spare_at lines i

-- the key of the list at a place, if there is one
abbrev pub key_in : List (Key × Room Row) → ℕ → Option Key
key_in [] i = None
key_in (line ∷ lines) zero = Some line.0
key_in (line ∷ lines) (suc i) = key_in lines i

-- the list of a key stands at a place, and no other list is of that key
pub record StandsAt (k : Key) (i : ℕ) (lines : List (Key × Room Row)) : Type 0 where
  pub before : List (Key × Room Row)
  pub line : Room Row
  pub after : List (Key × Room Row)
  pub split : lines ≡ before ++ (k, line) ∷ after
  pub at : length before ≡ i
  pub others_before : Others k before
  pub others_after : Others k after

-- how many tuples have the key, if there is one
abbrev pub tuples_with : ℕ → Option Key → List (List Value) → ℕ
tuples_with field None ts = 0
tuples_with field (Some k) ts = length (filter (has_key field k) ts)

-- the list of the template's key stands at a place, and its first match at a place in it
pub record IsFirst (field : ℕ) (m : List Slot) (line row : ℕ) (lines : List (Key × Room Row)) : Type 0 where
  pub key : Key
  pub asked : asked_at field m ≡ Some key
  pub stands : StandsAt key line lines
  pub first : first_match (map tuple_of (items_at lines line)) m ≡ Some row

-- the room that was made for a key: in its list, or for a list of its own
abbrev pub RoomFor : Key → Option ℕ → Lines → Room Row → Type 0
RoomFor k None table fresh = Others k table.lines × (0 < table.spare) × (0 < fresh.spare)
RoomFor k (Some place) table fresh = (key_in table.lines place ≡ Some k) × (0 < spare_at table.lines place)

-- each list has a tuple
abbrev pub Full : List (Key × Room Row) → Type 0
Full [] = Unit {0}
Full (line ∷ lines) = (0 < length line.1.items) × Full lines

-- each list but the one at a place has a tuple
abbrev pub FullBut : ℕ → List (Key × Room Row) → Type 0
FullBut i [] = Unit {0}
FullBut zero (line ∷ lines) = Full lines
FullBut (suc i) (line ∷ lines) = (0 < length line.1.items) × FullBut i lines
