-- The line of an act. (This project; the operations: Gelernter 1985; Carriero and Gelernter, "How to Write Parallel
-- Programs".)
use Rattle.std.specs.Prelude.{ℕ, List, [], ◌∷◌, ◌++◌, codes}
use Rattle.std.specs.Fmt.{decimal}
use Rattle.cl_value.specs.Text.{line, value_text, tuple_text}
use Rattle.cl_value.specs.Plain.{PlainPart, Ready, Call, PlainWhat, DidOut, DidIn, DidRd, InpHit, InpMiss, RdpHit, RdpMiss, DidEval, DidLand, PlainAct}
use Rattle.cl_value.specs.declared.value.FieldType.{FieldType}
use Rattle.cl_value.specs.declared.value.FieldType.TheVariants as types
use Rattle.cl_value.specs.declared.template.Slot.{Slot}
use Rattle.cl_value.specs.declared.template.Slot.TheVariants as slots

-- a formal as it is printed; no template has one of text
abbrev pub formal_text : FieldType → List ℕ
formal_text types.Int = codes "?int"
formal_text types.Long = codes "?long"
formal_text types.Char = codes "?char"
formal_text types.Text = codes "?text"

-- a field of a template as it is printed
abbrev pub slot_text : List (List ℕ) → Slot → List ℕ
slot_text texts (slots.Actual value) = value_text texts value
slot_text texts (slots.Formal type) = formal_text type

-- fields of a template after the first, each behind a comma
abbrev pub more_slots_text : List (List ℕ) → List Slot → List ℕ
more_slots_text texts [] = []
more_slots_text texts (slot ∷ template) = codes "," ++ slot_text texts slot ++ more_slots_text texts template

-- fields of a template, joined by commas
abbrev pub slots_text : List (List ℕ) → List Slot → List ℕ
slots_text texts [] = []
slots_text texts (slot ∷ template) = slot_text texts slot ++ more_slots_text texts template

-- a template as it is printed
abbrev pub template_text : List (List ℕ) → List Slot → List ℕ
template_text texts template = codes "(" ++ slots_text texts template ++ codes ")"

-- a field of a live tuple as it is printed: its value, or the number of the function behind `!`, with the arguments
abbrev pub part_text : List (List ℕ) → PlainPart → List ℕ
part_text texts (Ready value) = value_text texts value
part_text texts (Call function arguments gives) = codes "!" ++ decimal function ++ tuple_text texts arguments

-- fields of a live tuple after the first, each behind a comma
abbrev pub more_parts_text : List (List ℕ) → List PlainPart → List ℕ
more_parts_text texts [] = []
more_parts_text texts (part ∷ live) = codes "," ++ part_text texts part ++ more_parts_text texts live

-- fields of a live tuple, joined by commas
abbrev pub parts_text : List (List ℕ) → List PlainPart → List ℕ
parts_text texts [] = []
parts_text texts (part ∷ live) = part_text texts part ++ more_parts_text texts live

-- a live tuple as it is printed
abbrev pub live_text : List (List ℕ) → List PlainPart → List ℕ
live_text texts live = codes "(" ++ parts_text texts live ++ codes ")"

-- what was done: its word, and what it asked with, took, read or added
abbrev pub what_text : List (List ℕ) → PlainWhat → List ℕ
what_text texts (DidOut tuple) = codes "out " ++ tuple_text texts tuple
what_text texts (DidIn template tuple) = codes "in " ++ template_text texts template ++ codes " " ++ tuple_text texts tuple
what_text texts (DidRd template tuple) = codes "rd " ++ template_text texts template ++ codes " " ++ tuple_text texts tuple
what_text texts (InpHit template tuple) = codes "inp-hit " ++ template_text texts template ++ codes " " ++ tuple_text texts tuple
what_text texts (InpMiss template) = codes "inp-miss " ++ template_text texts template
what_text texts (RdpHit template tuple) = codes "rdp-hit " ++ template_text texts template ++ codes " " ++ tuple_text texts tuple
what_text texts (RdpMiss template) = codes "rdp-miss " ++ template_text texts template
what_text texts (DidEval live) = codes "eval " ++ live_text texts live
what_text texts (DidLand tuple) = codes "land " ++ tuple_text texts tuple

-- the line of an act: its ticket, its process, its site, and what was done
abbrev pub act_line : List (List ℕ) → PlainAct → List ℕ
act_line texts act =
    line (decimal act.ticket ++ codes " " ++ decimal act.proc ++ codes " " ++ decimal act.site ++ codes " " ++ what_text texts act.what)
