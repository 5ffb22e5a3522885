-- Values and fields as bytes: a byte that tells the type, and the value. (This project's own.)
use Rattle.std.specs.Prelude.{ℕ, zero, suc, ◌+◌, ◌<◌, ◌%◌, ◌^◌, nat_lt, ◌==◌, if◌then◌else◌, List, [], ◌∷◌, ◌++◌, length}
use Rattle.cl_value.specs.Matching.{type_of}
use Rattle.cl_value.specs.Plain.{PlainPart, Ready, Call}
use Rattle.cl_value.specs.declared.value.Value.{Value}
use Rattle.cl_value.specs.declared.value.Value.TheVariants as values
use Rattle.cl_value.specs.declared.value.FieldType.{FieldType}
use Rattle.cl_value.specs.declared.value.FieldType.TheVariants as types
use Rattle.cl_value.specs.declared.template.Slot.{Slot}
use Rattle.cl_value.specs.declared.template.Slot.TheVariants as slots
use Rattle.cl_log.specs.Numbers.{number, number_at, unsigned, signed}

-- the number of a type
abbrev pub type_code : FieldType → ℕ
type_code types.Int = 0
type_code types.Long = 1
type_code types.Char = 2
type_code types.Text = 3

-- the type of a byte that tells one, with or without 128 added
abbrev pub type_at : ℕ → FieldType
type_at byte = if byte % 128 == 0 then types.Int else if byte % 128 == 1 then types.Long else if byte % 128 == 2 then types.Char else types.Text

-- a value without its type
abbrev pub content : Value → List ℕ
content (values.Int n) = number (unsigned n)
content (values.Long n) = number (unsigned n)
content (values.Char n) = number n
content (values.Text n) = number n

-- the value of a type with which bytes begin, and the bytes behind it
abbrev pub content_at : FieldType → List ℕ → Value × List ℕ
content_at types.Int bytes = let read = number_at bytes in (values.Int (signed (read.0 % 2 ^ 32)), read.1)
content_at types.Long bytes = let read = number_at bytes in (values.Long (signed read.0), read.1)
content_at types.Char bytes = let read = number_at bytes in (values.Char (read.0 % 256), read.1)
content_at types.Text bytes = let read = number_at bytes in (values.Text (read.0 % 2 ^ 32), read.1)

-- a value lies within what its type can hold
abbrev pub HasBytes : Value → Type 0
HasBytes (values.Int n) = unsigned n < 2 ^ 32
HasBytes (values.Long n) = unsigned n < 2 ^ 64
HasBytes (values.Char n) = n < 256
HasBytes (values.Text n) = n < 2 ^ 32

-- a value behind the byte of its type, to which a mark is added
unfoldable pub marked : ℕ → Value → List ℕ
marked mark value = (mark + type_code (type_of value)) ∷ content value

-- values, one after another
unfoldable pub values_of : List Value → List ℕ
values_of [] = []
values_of (value ∷ rest) = marked 0 value ++ values_of rest

-- the mark of a slot: 128 for a formal
abbrev pub mark_of : Slot → ℕ
mark_of (slots.Actual value) = 0
mark_of (slots.Formal type) = 128

-- a template with a tuple that it matches: the values, those of formals marked
unfoldable pub hits_of : List Slot → List Value → List ℕ
hits_of (slot ∷ slots) (value ∷ values) = marked (mark_of slot) value ++ hits_of slots values
hits_of _ _ = []

-- a slot of a template that missed: a value, or a marked type alone
unfoldable pub slot_of : Slot → List ℕ
slot_of (slots.Actual value) = marked 0 value
slot_of (slots.Formal type) = (128 + type_code type) ∷ []

-- slots, one after another
unfoldable pub slots_of : List Slot → List ℕ
slots_of [] = []
slots_of (slot ∷ rest) = slot_of slot ++ slots_of rest

-- a field of a live tuple: a value, or behind a marked type the function, the number of its arguments, and these
unfoldable pub part_of : PlainPart → List ℕ
part_of (Ready value) = marked 0 value
part_of (Call function arguments gives) = (128 + type_code gives) ∷ (number function ++ number (length arguments) ++ values_of arguments)

-- fields of a live tuple, one after another
unfoldable pub parts_of : List PlainPart → List ℕ
parts_of [] = []
parts_of (part ∷ rest) = part_of part ++ parts_of rest

-- the value with which bytes begin, and the bytes behind it. Where there is none it is a text
unfoldable pub value_at : List ℕ → Value × List ℕ
value_at [] = content_at types.Text []
value_at (byte ∷ bytes) = content_at (type_at byte) bytes

-- so many values
unfoldable pub values_at : ℕ → List ℕ → List Value × List ℕ
values_at zero bytes = ([], bytes)
values_at (suc count) bytes =
    let one = value_at bytes in
    let rest = values_at count one.1 in
    (one.0 ∷ rest.0, rest.1)

-- the slot before a value: a formal where the byte is marked
abbrev pub slot_at : ℕ → Value → Slot
slot_at byte value = if nat_lt byte 128 then slots.Actual value else slots.Formal (type_of value)

-- a slot with its value, and the bytes behind them
unfoldable pub hit_at : List ℕ → Slot × Value × List ℕ
hit_at [] = let read = content_at types.Text [] in (slots.Actual read.0, read.0, read.1)
hit_at (byte ∷ bytes) = let read = content_at (type_at byte) bytes in (slot_at byte read.0, read.0, read.1)

-- so many slots with their values
unfoldable pub hits_at : ℕ → List ℕ → List Slot × List Value × List ℕ
hits_at zero bytes = ([], [], bytes)
hits_at (suc count) bytes =
    let one = hit_at bytes in
    let rest = hits_at count one.2 in
    (one.0 ∷ rest.0, one.1 ∷ rest.1, rest.2)

-- an actual, and the bytes behind it
abbrev pub actual_of : Value × List ℕ → Slot × List ℕ
actual_of read = (slots.Actual read.0, read.1)

-- a slot that missed, and the bytes behind it
unfoldable pub miss_at : List ℕ → Slot × List ℕ
miss_at [] = actual_of (content_at types.Text [])
miss_at (byte ∷ bytes) = if nat_lt byte 128 then actual_of (content_at (type_at byte) bytes) else (slots.Formal (type_at byte), bytes)

-- so many slots that missed
unfoldable pub misses_at : ℕ → List ℕ → List Slot × List ℕ
misses_at zero bytes = ([], bytes)
misses_at (suc count) bytes =
    let one = miss_at bytes in
    let rest = misses_at count one.1 in
    (one.0 ∷ rest.0, rest.1)

-- a field of a live tuple that is a value, and the bytes behind it
abbrev pub ready_of : Value × List ℕ → PlainPart × List ℕ
ready_of read = (Ready read.0, read.1)

-- a call of a live tuple, and the bytes behind it
unfoldable pub call_at : FieldType → List ℕ → PlainPart × List ℕ
call_at gives bytes =
    let function = number_at bytes in
    let count = number_at function.1 in
    let arguments = values_at count.0 count.1 in
    (Call (function.0 % 2 ^ 32) arguments.0 gives, arguments.1)

-- a field of a live tuple, and the bytes behind it
unfoldable pub part_at : List ℕ → PlainPart × List ℕ
part_at [] = ready_of (content_at types.Text [])
part_at (byte ∷ bytes) = if nat_lt byte 128 then ready_of (content_at (type_at byte) bytes) else call_at (type_at byte) bytes

-- so many fields of a live tuple
unfoldable pub parts_at : ℕ → List ℕ → List PlainPart × List ℕ
parts_at zero bytes = ([], bytes)
parts_at (suc count) bytes =
    let one = part_at bytes in
    let rest = parts_at count one.1 in
    (one.0 ∷ rest.0, rest.1)
