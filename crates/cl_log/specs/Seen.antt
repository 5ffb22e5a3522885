-- Live tuples from bytes: their fields in one list, and the arguments of all their calls in another. (This project's own.)
use Rattle.std.specs.Prelude.{ℕ, zero, suc, ◌+◌, ◌%◌, ◌^◌, nat_lt, if◌then◌else◌, List, [], ◌∷◌, ◌++◌, take, drop, length}
use Rattle.cl_value.specs.Plain as plain
use Rattle.cl_value.specs.Plain.{PlainPart}
use Rattle.cl_value.specs.declared.value.Value.{Value}
use Rattle.cl_value.specs.declared.value.FieldType.{FieldType}
use Rattle.cl_value.specs.declared.value.FieldType.TheVariants as types
use Rattle.cl_log.specs.Numbers.{number_at}
use Rattle.cl_log.specs.Values.{type_at, content_at, values_at}
use Rattle.cl_log.specs.declared.part.SeenPart.{SeenPart}
use Rattle.cl_log.specs.declared.part.SeenPart.TheVariants as seen

-- fields with the arguments of their calls
abbrev pub with_arguments : List SeenPart → List Value → List PlainPart
with_arguments [] arguments = []
with_arguments (seen.Ready value ∷ parts) arguments = plain.Ready value ∷ with_arguments parts arguments
with_arguments (seen.Call function count gives ∷ parts) arguments = plain.Call function (take count arguments) gives ∷ with_arguments parts (drop count arguments)

-- how many arguments live fields have
abbrev pub arguments_in : List PlainPart → ℕ
arguments_in [] = 0
arguments_in (plain.Ready value ∷ parts) = arguments_in parts
arguments_in (plain.Call function arguments gives ∷ parts) = length arguments + arguments_in parts

-- a field that is a value, without arguments
abbrev pub ready_seen : Value × List ℕ → SeenPart × List Value × List ℕ
ready_seen read = (seen.Ready read.0, [], read.1)

-- a call, its arguments, and the bytes behind them
unfoldable pub call_seen : FieldType → List ℕ → SeenPart × List Value × List ℕ
call_seen gives bytes =
    let function = number_at bytes in
    let count = number_at function.1 in
    let arguments = values_at count.0 count.1 in
    (seen.Call (function.0 % 2 ^ 32) count.0 gives, arguments.0, arguments.1)

-- a field, its arguments, and the bytes behind them
unfoldable pub part_seen : List ℕ → SeenPart × List Value × List ℕ
part_seen [] = ready_seen (content_at types.Text [])
part_seen (byte ∷ bytes) = if nat_lt byte 128 then ready_seen (content_at (type_at byte) bytes) else call_seen (type_at byte) bytes

-- so many fields, the arguments of all of them, and the bytes behind them
unfoldable pub parts_seen : ℕ → List ℕ → List SeenPart × List Value × List ℕ
parts_seen zero bytes = ([], [], bytes)
parts_seen (suc count) bytes =
    let one = part_seen bytes in
    let rest = parts_seen count one.2 in
    (one.0 ∷ rest.0, one.1 ++ rest.1, rest.2)
