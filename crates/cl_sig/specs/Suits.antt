-- When a request suits the shape of a set, so that the set's store can do it. (This project.)
use Rattle.std.specs.Prelude.{Bool, true, false, ◌&&◌, ◌||◌, List, Option, Some, slice_get}
use Rattle.cl_value.specs.Matching.{same_type, same_value, type_of}
use Rattle.cl_value.specs.Plain.{PlainPart, Ready, Call, PlainAsk, Out, In, Rd, Inp, Rdp, Eval, Land, PlainRequest}
use Rattle.cl_value.specs.Acts.{is_site_of}
use Rattle.cl_value.specs.declared.value.Value.{Value}
use Rattle.cl_value.specs.declared.value.FieldType.{FieldType}
use Rattle.cl_value.specs.declared.template.Slot.{Slot}
use Rattle.cl_value.specs.declared.template.Slot.TheVariants as slots
use Rattle.cl_sig.specs.Beside.{all_beside}
use Rattle.cl_sig.specs.Shapes.{PlainShape}
use Rattle.cl_sig.specs.declared.signature.Mark.{Mark}
use Rattle.cl_sig.specs.declared.signature.Mark.TheVariants as marks
use Rattle.cl_sig.specs.declared.shape.Class.{Class}
use Rattle.cl_sig.specs.declared.shape.Class.TheVariants as classes

-- the type of what a slot asks for
abbrev pub slot_type : Slot → FieldType
slot_type (slots.Actual v) = type_of v
slot_type (slots.Formal type) = type

-- whether a value suits a common field: it is its literal, or of its type
abbrev pub value_suits : Mark → Value → Bool
value_suits (marks.Constant v) w = same_value v w
value_suits (marks.Actual type) w = same_type type (type_of w)
value_suits (marks.Formal type) w = false

-- whether a slot does: an actual of its literal, or of its type
abbrev pub slot_suits : Mark → Slot → Bool
slot_suits (marks.Constant v) (slots.Actual w) = same_value v w
slot_suits (marks.Actual type) slot = same_type type (slot_type slot)
slot_suits _ _ = false

-- whether a part of a live tuple does
abbrev pub part_suits : Mark → PlainPart → Bool
part_suits mark (Ready w) = value_suits mark w
part_suits (marks.Actual type) (Call function arguments gives) = same_type type gives
part_suits _ _ = false

-- whether a mark is a literal
abbrev pub is_literal : Mark → Bool
is_literal (marks.Constant v) = true
is_literal _ = false

-- whether a slot is a formal
abbrev pub is_formal_slot : Slot → Bool
is_formal_slot (slots.Formal type) = true
is_formal_slot _ = false

-- whether there is a slot, and it is an actual
abbrev pub is_actual_at : Option Slot → Bool
is_actual_at (Some (slots.Actual v)) = true
is_actual_at _ = false

-- what the class asks of a template besides: under Queue a formal at each field that isn't a literal of
-- all, under Keyed an actual at the key
abbrev pub class_suits : Class → List Mark → List Slot → Bool
class_suits classes.Queue fields m = all_beside (λ mark slot. is_literal mark || is_formal_slot slot) fields m
class_suits (classes.Keyed f) fields m = is_actual_at (slice_get m f)
class_suits _ fields m = true

-- whether a tuple, a template and a live tuple suit a shape
abbrev pub tuple_suits : PlainShape → List Value → Bool
tuple_suits shape t = all_beside value_suits shape.common.fields t

-- whether a template suits a shape
abbrev pub template_suits : PlainShape → List Slot → Bool
template_suits shape m = all_beside slot_suits shape.common.fields m && class_suits shape.class shape.common.fields m

-- whether a live tuple suits a shape
abbrev pub live_suits : PlainShape → List PlainPart → Bool
live_suits shape live = all_beside part_suits shape.common.fields live

-- whether an operation suits a shape
abbrev pub ask_suits : PlainShape → PlainAsk → Bool
ask_suits shape (Out t) = tuple_suits shape t
ask_suits shape (In m) = template_suits shape m
ask_suits shape (Rd m) = template_suits shape m
ask_suits shape (Inp m) = template_suits shape m
ask_suits shape (Rdp m) = template_suits shape m
ask_suits shape (Eval live) = live_suits shape live
ask_suits shape (Land t) = tuple_suits shape t

-- whether a request suits: its site is one of the set's, and its operation suits
abbrev pub suits : PlainShape → PlainRequest → Bool
suits shape request = is_site_of shape.sites request.site && ask_suits shape request.ask
