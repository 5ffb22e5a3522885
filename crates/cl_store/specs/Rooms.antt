-- The room that stores make ahead of a tuple. (This project.)
use Rattle.std.specs.Prelude.{ℕ, Bool, ltb, ◌==◌, ◌&&◌, if◌then◌else◌, List, length}
use Rattle.cl_value.specs.declared.value.Value.{Value}

-- for how many fields a tuple has room: a list of tuples has some free places, and memory for so many
-- fields is ready; 0 is none
abbrev pub room_in : ℕ → ℕ → ℕ
room_in places ready = if ltb 0 places then ready else 0

-- whether a tuple has just that room
abbrev pub has_just : ℕ → List Value → Bool
has_just room t = ltb 0 room && length t == room

-- what contracts see of a store that is one list: its tuples in order of adding, and for how many fields
-- a tuple can be added without a growth; 0 is none
pub record Stored : Type 0 where
  pub tuples : List (List Value)
  pub room : ℕ
