-- When a tuple, a template, a live tuple or a request is one of a signature. (This project.)
use Rattle.std.specs.Prelude.{Bool, false, List, Option, Some, None, slice_get}
use Rattle.cl_value.specs.Matching.{same_type, same_value, type_of}
use Rattle.cl_value.specs.Plain.{PlainPart, Ready, Call, PlainAsk, Out, In, Rd, Inp, Rdp, Eval, Land, PlainRequest}
use Rattle.cl_value.specs.declared.value.Value.{Value}
use Rattle.cl_value.specs.declared.template.Slot.{Slot}
use Rattle.cl_value.specs.declared.template.Slot.TheVariants as slots
use Rattle.cl_sig.specs.Beside.{all_beside}
use Rattle.cl_sig.specs.Signatures.{PlainSignature}
use Rattle.cl_sig.specs.declared.signature.Kind.{Kind}
use Rattle.cl_sig.specs.declared.signature.Kind.TheVariants as kinds
use Rattle.cl_sig.specs.declared.signature.Mark.{Mark}
use Rattle.cl_sig.specs.declared.signature.Mark.TheVariants as marks

-- whether a field may have this value: a literal its own, an actual each of its type, a formal none
abbrev pub value_fits : Mark → Value → Bool
value_fits (marks.Constant v) w = same_value v w
value_fits (marks.Actual type) w = same_type type (type_of w)
value_fits (marks.Formal type) w = false

-- whether a field may have this slot
abbrev pub slot_fits : Mark → Slot → Bool
slot_fits (marks.Constant v) (slots.Actual w) = same_value v w
slot_fits (marks.Actual type) (slots.Actual w) = same_type type (type_of w)
slot_fits (marks.Formal type) (slots.Formal asked) = same_type type asked
slot_fits _ _ = false

-- whether a field may have this part of a live tuple; a call is an actual
abbrev pub part_fits : Mark → PlainPart → Bool
part_fits mark (Ready w) = value_fits mark w
part_fits (marks.Actual type) (Call function arguments gives) = same_type type gives
part_fits _ _ = false

-- whether a tuple, a template and a live tuple are instances of a signature's fields
abbrev pub is_tuple_of : List Mark → List Value → Bool
is_tuple_of = all_beside value_fits

-- whether a template is an instance of a signature's fields
abbrev pub is_template_of : List Mark → List Slot → Bool
is_template_of = all_beside slot_fits

-- whether a live tuple is an instance of a signature's fields
abbrev pub is_live_of : List Mark → List PlainPart → Bool
is_live_of = all_beside part_fits

-- whether an operation is an instance of a signature of its kind; a landing is one of its `eval`
abbrev pub ask_fits : Kind → List Mark → PlainAsk → Bool
ask_fits kinds.Out fields (Out t) = is_tuple_of fields t
ask_fits kinds.In fields (In m) = is_template_of fields m
ask_fits kinds.Rd fields (Rd m) = is_template_of fields m
ask_fits kinds.Inp fields (Inp m) = is_template_of fields m
ask_fits kinds.Rdp fields (Rdp m) = is_template_of fields m
ask_fits kinds.Eval fields (Eval live) = is_live_of fields live
ask_fits kinds.Eval fields (Land t) = is_tuple_of fields t
ask_fits _ _ _ = false

-- whether an operation is an instance of a signature
abbrev pub is_instance : PlainSignature → PlainAsk → Bool
is_instance signature ask = ask_fits signature.kind signature.fields ask

-- whether there is a signature, and an operation is an instance of it
abbrev pub is_instance_at : Option PlainSignature → PlainAsk → Bool
is_instance_at (Some signature) ask = is_instance signature ask
is_instance_at None ask = false

-- whether a request is an instance of its site's signature
abbrev pub is_of_its_site : List PlainSignature → PlainRequest → Bool
is_of_its_site sites request = is_instance_at (slice_get sites request.site) request.ask
