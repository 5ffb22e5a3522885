-- What the instruction of a tuple operation takes from the stack, asks for and gives. (The operations: Gelernter 1985; that fields and formals
-- go from left to right, and zeros on a miss: this project.)
use Rattle.std.specs.Prelude.{ℕ, suc, ◌+◌, if◌then◌else◌, List, [], ◌∷◌, ◌++◌, length, drop, replicate, slice_get, Option, Some, None, ℤ, pos, Ok, Err}
use Rattle.cl_value.specs.declared.process.Trap.TheVariants.{Overflow}
use Rattle.cl_value.specs.declared.value.Value.{Value}
use Rattle.cl_value.specs.declared.value.Value.TheVariants as values
use Rattle.cl_value.specs.declared.value.FieldType.{FieldType}
use Rattle.cl_value.specs.declared.value.FieldType.TheVariants as types
use Rattle.cl_value.specs.declared.template.Slot.{Slot}
use Rattle.cl_value.specs.declared.template.Slot.TheVariants as slots
use Rattle.cl_value.specs.Plain.{PlainPart, Ready, Call, PlainAsk, Out, In, Rd, Inp, Rdp, Eval, PlainReply, Done, Got, Miss}
use Rattle.cl_model.specs.Doing.{Checked}
use Rattle.cl_model.specs.Numbers.{number, and_then}
use Rattle.cl_value.specs.Ranges.{is_within}
use Rattle.cl_sig.specs.Signatures.{PlainSignature}
use Rattle.cl_sig.specs.declared.signature.Kind.{Kind}
use Rattle.cl_sig.specs.declared.signature.Kind.TheVariants as kinds
use Rattle.cl_sig.specs.declared.signature.Mark.{Mark}
use Rattle.cl_sig.specs.declared.signature.Mark.TheVariants as marks
use Rattle.cl_code.specs.Plain.{PlainFunction, PlainProgram}

-- ---- the fields of a site

-- a field: its mark, and the function where it is a call
pub record Place : Type 0 where
  pub mark : Mark
  pub call : Option ℕ

-- each mark with its call; where no call is told there is none
abbrev pub places : List Mark → List (Option ℕ) → List Place
places [] calls = []
places (mark ∷ rest) [] = record { mark = mark; call = None } ∷ places rest []
places (mark ∷ rest) (call ∷ calls) = record { mark = mark; call = call } ∷ places rest calls

-- the list, if there is one
abbrev pub none_or : {A : Type 0} → Option (List A) → List A
none_or None = []
none_or (Some all) = all

-- the fields of the site with this number
abbrev pub places_at : PlainProgram → ℕ → PlainSignature → List Place
places_at p site signature = places signature.fields (none_or (slice_get p.calls site))

-- the parameters of a function, if it is there
abbrev pub parameters_or_none : Option PlainFunction → List FieldType
parameters_or_none None = []
parameters_or_none (Some f) = f.parameters

-- the parameters of the function with this number
abbrev pub parameters_at : PlainProgram → ℕ → List FieldType
parameters_at p f = parameters_or_none (slice_get p.functions f)

-- ---- numbers on the stack

-- how many numbers an operation takes for a field
abbrev pub takes_for : PlainProgram → Mark → Option ℕ → ℕ
takes_for p (marks.Constant v) call = 0
takes_for p (marks.Formal type) call = 0
takes_for p (marks.Actual type) None = 1
takes_for p (marks.Actual type) (Some f) = length (parameters_at p f)

-- how many numbers these fields take from the stack
abbrev pub takes : PlainProgram → List Place → ℕ
takes p [] = 0
takes p (place ∷ rest) = takes_for p place.mark place.call + takes p rest

-- how many formals there are
abbrev pub formals_in : List Mark → ℕ
formals_in [] = 0
formals_in (marks.Formal type ∷ rest) = suc (formals_in rest)
formals_in (mark ∷ rest) = formals_in rest

-- whether an operation answers that it hit or missed, by one more number
abbrev pub answers : Kind → ℕ
answers kinds.Inp = 1
answers kinds.Rdp = 1
answers _ = 0

-- how many numbers an operation gives
abbrev pub gives : PlainSignature → ℕ
gives signature = formals_in signature.fields + answers signature.kind

-- ---- from numbers to a request

-- a number as a value of a type, which traps where it doesn't fit; no number is a text
abbrev pub as_value : FieldType → ℤ → Checked Value
as_value types.Int n = if is_within 31 n then Ok (values.Int n) else Err Overflow
as_value types.Long n = if is_within 63 n then Ok (values.Long n) else Err Overflow
as_value types.Char (pos n) = if is_within 8 (pos n) then Ok (values.Char n) else Err Overflow
as_value _ _ = Err Overflow

-- numbers as values of these types, as many as there are of both
abbrev pub as_values : List FieldType → List ℤ → Checked (List Value)
as_values (type ∷ rest) (n ∷ ns) = and_then (as_value type n) (λ v. and_then (as_values rest ns) (λ vs. Ok (v ∷ vs)))
as_values _ _ = Ok []

-- a field that was read: a value, a place that is to get one, or a call
pub data Field : Type 0 where
  Holds : (value : Value) → Field
  Asks : (type : FieldType) → Field
  Calls : (function : ℕ) (arguments : List Value) (gives : FieldType) → Field

-- the first number, if there is one
abbrev pub first_or_zero : List ℤ → ℤ
first_or_zero [] = pos 0
first_or_zero (n ∷ ns) = n

-- a field, by the numbers that are left
abbrev pub field_of : PlainProgram → Mark → Option ℕ → List ℤ → Checked Field
field_of p (marks.Constant v) call ns = Ok (Holds v)
field_of p (marks.Formal type) call ns = Ok (Asks type)
field_of p (marks.Actual type) None ns = and_then (as_value type (first_or_zero ns)) (λ v. Ok (Holds v))
field_of p (marks.Actual type) (Some f) ns = and_then (as_values (parameters_at p f) ns) (λ vs. Ok (Calls f vs type))

-- the fields from left to right: the first that doesn't fit traps
abbrev pub fields_of : PlainProgram → List Place → List ℤ → Checked (List Field)
fields_of p [] ns = Ok []
fields_of p (place ∷ rest) ns = and_then (field_of p place.mark place.call ns) (λ field. and_then (fields_of p rest (drop (takes_for p place.mark place.call) ns)) (λ fields. Ok (field ∷ fields)))

-- the values of a tuple, in which neither a formal nor a call stands
abbrev pub values_of : List Field → List Value
values_of [] = []
values_of (Holds v ∷ rest) = v ∷ values_of rest
values_of (_ ∷ rest) = values_of rest

-- the slots of a template, in which no call stands
abbrev pub slots_of : List Field → List Slot
slots_of [] = []
slots_of (Holds v ∷ rest) = slots.Actual v ∷ slots_of rest
slots_of (Asks type ∷ rest) = slots.Formal type ∷ slots_of rest
slots_of (Calls f vs type ∷ rest) = slots_of rest

-- the parts of a live tuple, in which no formal stands
abbrev pub parts_of : List Field → List PlainPart
parts_of [] = []
parts_of (Holds v ∷ rest) = Ready v ∷ parts_of rest
parts_of (Asks type ∷ rest) = parts_of rest
parts_of (Calls f vs type ∷ rest) = Call f vs type ∷ parts_of rest

-- the operation of this kind with these fields
abbrev pub asked : Kind → List Field → PlainAsk
asked kinds.Out fields = Out (values_of fields)
asked kinds.In fields = In (slots_of fields)
asked kinds.Rd fields = Rd (slots_of fields)
asked kinds.Inp fields = Inp (slots_of fields)
asked kinds.Rdp fields = Rdp (slots_of fields)
asked kinds.Eval fields = Eval (parts_of fields)

-- ---- from a reply to numbers

-- the numbers that stand at the formals
abbrev pub received : List Mark → List Value → List ℤ
received (marks.Formal type ∷ rest) (v ∷ vs) = number v ∷ received rest vs
received (_ ∷ rest) (v ∷ vs) = received rest vs
received _ _ = []

-- of the formals in order: their values, or zeros
abbrev pub formals_told : List Mark → PlainReply → List ℤ
formals_told fields (Got t) = received fields t
formals_told fields Done = replicate (formals_in fields) (pos 0)
formals_told fields Miss = replicate (formals_in fields) (pos 0)

-- 1 for a hit
abbrev pub hit : PlainReply → ℤ
hit (Got t) = pos 1
hit Done = pos 0
hit Miss = pos 0

-- what is pushed of the answer of an operation that tries: 1 or 0
abbrev pub answer_told : Kind → PlainReply → List ℤ
answer_told kinds.Inp reply = hit reply ∷ []
answer_told kinds.Rdp reply = hit reply ∷ []
answer_told _ reply = []

-- what is pushed after a reply, in order
abbrev pub told : PlainSignature → PlainReply → List ℤ
told signature reply = formals_told signature.fields reply ++ answer_told signature.kind reply
