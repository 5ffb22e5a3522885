-- When a tuple matches a template. (Gelernter 1985; texts as a type of their own: this project.)
use Rattle.std.specs.Prelude.{Bool, true, false, ◌&&◌, ◌==◌, List, [], ◌∷◌}
use Rattle.std.specs.Ordering.{int_eq}
use Rattle.cl_value.specs.declared.value.Value.{Value}
use Rattle.cl_value.specs.declared.value.Value.TheVariants as values
use Rattle.cl_value.specs.declared.value.FieldType.{FieldType}
use Rattle.cl_value.specs.declared.value.FieldType.TheVariants as types
use Rattle.cl_value.specs.declared.template.Slot.{Slot}
use Rattle.cl_value.specs.declared.template.Slot.TheVariants as slots

-- the type of a value
abbrev pub type_of : Value → FieldType
type_of (values.Int n) = types.Int
type_of (values.Long n) = types.Long
type_of (values.Char n) = types.Char
type_of (values.Text n) = types.Text

-- whether two types are the same
abbrev pub same_type : FieldType → FieldType → Bool
same_type types.Int types.Int = true
same_type types.Long types.Long = true
same_type types.Char types.Char = true
same_type types.Text types.Text = true
same_type _ _ = false

-- whether two values are equal, their types included
abbrev pub same_value : Value → Value → Bool
same_value (values.Int a) (values.Int b) = int_eq a b
same_value (values.Long a) (values.Long b) = int_eq a b
same_value (values.Char a) (values.Char b) = a == b
same_value (values.Text a) (values.Text b) = a == b
same_value _ _ = false

-- whether two tuples are equal, field by field
abbrev pub same_tuple : List Value → List Value → Bool
same_tuple [] [] = true
same_tuple (v ∷ vs) (w ∷ ws) = same_value v w && same_tuple vs ws
same_tuple _ _ = false

-- whether a slot may stand in a template: a formal isn't of text
abbrev pub may_stand : Slot → Bool
may_stand (slots.Formal types.Text) = false
may_stand _ = true

-- whether a slot takes a value: an actual its own, a formal each of its type
abbrev pub accepts : Slot → Value → Bool
accepts (slots.Actual v) w = same_value v w
accepts (slots.Formal type) w = same_type type (type_of w)

-- whether a tuple matches a template: as many fields, and each slot takes its value
abbrev pub matches : List Slot → List Value → Bool
matches [] [] = true
matches (s ∷ ss) (v ∷ vs) = accepts s v && matches ss vs
matches _ _ = false
