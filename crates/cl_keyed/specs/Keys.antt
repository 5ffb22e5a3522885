-- The keys of values, tuples and templates. (This project.)
use Rattle.std.specs.Prelude.{ℕ, Bool, true, false, ◌==◌, List, Option, Some, None, option_and_then, slice_get}
use Rattle.std.specs.Ordering.{int_eq}
use Rattle.cl_value.specs.declared.value.Value.{Value}
use Rattle.cl_value.specs.declared.value.Value.TheVariants as values
use Rattle.cl_value.specs.declared.template.Slot.{Slot}
use Rattle.cl_value.specs.declared.template.Slot.TheVariants as slots
use Rattle.cl_keyed.specs.declared.key.Key.{Key}
use Rattle.cl_keyed.specs.declared.key.Key.TheVariants as keys

-- the key that a value is: a number or a character with its type; a text is none
abbrev pub key_of : Value → Option Key
key_of (values.Int n) = Some (keys.Int n)
key_of (values.Long n) = Some (keys.Long n)
key_of (values.Char n) = Some (keys.Char n)
key_of (values.Text n) = None

-- whether two keys are the same, their types included
abbrev pub same_key : Key → Key → Bool
same_key (keys.Int a) (keys.Int b) = int_eq a b
same_key (keys.Long a) (keys.Long b) = int_eq a b
same_key (keys.Char a) (keys.Char b) = a == b
same_key _ _ = false

-- the key of a tuple at a field, where there is one
abbrev pub key_at : ℕ → List Value → Option Key
key_at field t = option_and_then key_of (slice_get t field)

-- whether there is a key, and it is this one
abbrev pub is_key : Key → Option Key → Bool
is_key k None = false
is_key k (Some other) = same_key k other

-- whether a tuple has this key at a field
abbrev pub has_key : ℕ → Key → List Value → Bool
has_key field k t = is_key k (key_at field t)

-- the key that a slot asks for: that of its actual
abbrev pub asked_by : Slot → Option Key
asked_by (slots.Actual v) = key_of v
asked_by (slots.Formal type) = None

-- the key that a template asks for at a field, where there is one
abbrev pub asked_at : ℕ → List Slot → Option Key
asked_at field m = option_and_then asked_by (slice_get m field)

-- whether a slot is an actual
abbrev pub is_actual : Slot → Bool
is_actual (slots.Actual v) = true
is_actual (slots.Formal type) = false

-- whether there is a slot, and it is an actual
abbrev pub is_some_actual : Option Slot → Bool
is_some_actual None = false
is_some_actual (Some slot) = is_actual slot

-- whether a template has an actual at a field
abbrev pub has_actual : ℕ → List Slot → Bool
has_actual field m = is_some_actual (slice_get m field)
