-- From live tuples to their plain form. (This project.)
use Rattle.std.specs.Prelude.{List, map}
use Rattle.cl_ground.specs.Room.{Room}
use Rattle.cl_value.specs.Plain.{PlainPart, Ready, Call}
use Rattle.cl_value.specs.declared.live.LiveField.{LiveField}
use Rattle.cl_value.specs.declared.live.LiveField.TheVariants as fields

-- what contracts see of a live tuple: its fields in order, and for how many more there is room
abbrev pub Parts : Type 0
Parts = Room LiveField

-- a field of a live tuple as plain data, without its room
abbrev pub plain_part : LiveField → PlainPart
plain_part (fields.Ready value) = Ready value
plain_part (fields.Call function arguments gives) = Call function arguments.items gives

-- the fields of a live tuple as plain data
abbrev pub plain_live : Room LiveField → List PlainPart
plain_live live = map plain_part live.items
