-- How many bytes an act takes at most. (This project's own.)
use Rattle.std.specs.Prelude.{ℕ, ◌+◌, ◌*◌, List, [], ◌∷◌, length}
use Rattle.cl_value.specs.Plain.{PlainPart, Ready, Call, PlainAsk, Eval}
use Rattle.cl_log.specs.declared.number.TheConstants.{NUMBER_ROOM}
use Rattle.cl_log.specs.declared.write.TheConstants.{VALUE_ROOM}
use Rattle.cl_log.specs.declared.write_act.TheConstants.{HEAD_ROOM}
use Rattle.cl_ground.specs.declared.limits.TheConstants.{MOST_FIELDS}

-- of a field of a live tuple
abbrev pub part_room : PlainPart → ℕ
part_room (Ready value) = VALUE_ROOM
part_room (Call function arguments gives) = 1 + NUMBER_ROOM + NUMBER_ROOM + VALUE_ROOM * length arguments

-- of fields of a live tuple
abbrev pub parts_room : List PlainPart → ℕ
parts_room [] = 0
parts_room (part ∷ rest) = part_room part + parts_room rest

-- of what was asked for, whatever answers it
abbrev pub ask_room : PlainAsk → ℕ
ask_room (Eval live) = HEAD_ROOM + parts_room live
ask_room _ = HEAD_ROOM + VALUE_ROOM * MOST_FIELDS
