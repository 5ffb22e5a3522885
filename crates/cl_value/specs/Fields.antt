-- What contracts see of tuples and templates. (This project.)
use Rattle.cl_ground.specs.Room.{Room}
use Rattle.cl_value.specs.declared.value.Value.{Value}
use Rattle.cl_value.specs.declared.template.Slot.{Slot}

-- a tuple: its fields in order, and for how many more there is room
abbrev pub Fields : Type 0
Fields = Room Value

-- a template: its slots in order, and for how many more there is room
abbrev pub Slots : Type 0
Slots = Room Slot
