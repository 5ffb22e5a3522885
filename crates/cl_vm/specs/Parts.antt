-- The live tuple of an `eval` is filled into lists that were made before: one for its fields, and one for the arguments of each call. (This project.)
use Rattle.std.specs.Prelude.{◌≡◌, ℕ, max, ◌+◌, List, [], ◌∷◌, length, Option, None}
use Rattle.cl_ground.specs.Room.{Room, capacity_of, HasRoom}
use Rattle.cl_value.specs.declared.live.LiveField.{LiveField}
use Rattle.cl_value.specs.declared.live.LiveField.TheVariants as fields
use Rattle.cl_value.specs.declared.value.Value.{Value}
use Rattle.cl_code.specs.Plain.{PlainFunction}

-- the function of the first field, if it is a call
abbrev pub call_first : List (Option ℕ) → Option ℕ
call_first [] = None
call_first (call ∷ calls) = call

-- the lists of arguments in these fields
abbrev pub lists_of : List LiveField → List (Room Value)
lists_of [] = []
lists_of (fields.Ready value ∷ rest) = lists_of rest
lists_of (fields.Call function arguments gives ∷ rest) = arguments ∷ lists_of rest

-- each may have so many values without a growth
abbrev pub AreWide : ℕ → List (Room Value) → Type 0
AreWide widest [] = Unit {0}
AreWide widest (list ∷ lists) = HasRoom widest list × AreWide widest lists

-- the most parameters of these functions
abbrev pub widest_of : List PlainFunction → ℕ
widest_of [] = 0
widest_of (f ∷ fs) = max (length f.parameters) (widest_of fs)

-- no room was lost, whichever list stands in a field now and whichever is spare
pub record KeepsLists (widest : ℕ) (old_fields new_fields : Room LiveField) (old_spare new_spare : Room (Room Value)) : Type 0 where
  pub fields_room : capacity_of new_fields ≡ capacity_of old_fields
  pub spare_room : capacity_of new_spare ≡ capacity_of old_spare
  pub count : length (lists_of new_fields.items) + length new_spare.items ≡ length (lists_of old_fields.items) + length old_spare.items
  pub wide_fields : AreWide widest (lists_of old_fields.items) → AreWide widest (lists_of new_fields.items)
  pub wide_spare : AreWide widest new_spare.items
