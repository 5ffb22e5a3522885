-- What contracts see of a keyed store, and what its fields mean. (This project.)
use Rattle.std.specs.Prelude.{◌≡◌, ℕ, Bool, false, ◌^◌, ◌-◌, ◌<◌, ◌≤◌, List, [], length, Option, Some, None}
use Rattle.cl_ground.specs.Room.{Room}
use Rattle.cl_value.specs.declared.value.Value.{Value}
use Rattle.cl_keyed.specs.Keys.{is_key}
use Rattle.cl_keyed.specs.Rows.{Row, content_of, Holds}
use Rattle.cl_keyed.specs.Tables.{Lines, Full, RoomFor}
use Rattle.cl_keyed.specs.declared.key.Key.{Key}
use Rattle.cl_keyed.specs.declared.keyed.Ready.{Ready}

-- the field, the tuples in order of adding, the key for which room was made, and for how many fields
pub record Kept : Type 0 where
  pub field : ℕ
  pub tuples : List (List Value)
  pub key : Option Key
  pub room : ℕ

-- the key for which room was made
abbrev pub ready_key : Option Ready → Option Key
ready_key None = None
ready_key (Some ready) = Some ready.key

-- whether room was made for a key, and it is this one
abbrev pub same_ready : Option Key → Option Key → Bool
same_ready None other = false
same_ready (Some k) other = is_key k other

-- the room that was made, if any, and that a number is left
abbrev pub ReadyStands : ℕ → Option Ready → Lines → Room Row → Type 0
ReadyStands added None table fresh = Unit {0}
ReadyStands added (Some ready) table fresh = (added < 2 ^ 64 - 1) × RoomFor ready.key ready.place table fresh

-- what the fields of a keyed store mean
pub record Stands (field added count : ℕ) (table : Lines) (fresh : Room Row) (ready : Option Ready) : Type 0 where
  pub holds : Holds field added table.lines
  pub full : Full table.lines
  pub counted : count ≡ length (content_of added table.lines)
  pub few : count ≤ added
  pub empty : fresh.items ≡ []
  pub room : ReadyStands added ready table fresh
