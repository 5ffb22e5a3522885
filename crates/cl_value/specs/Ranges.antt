-- Values within the ranges of their types: an `int` from -2 ^ 31 to 2 ^ 31 - 1, a `long` from -2 ^ 63 to 2 ^ 63 - 1, a `char` from 0 to 255. A text
-- has no range. (ISO/IEC 9899:1999, 5.2.4.2.1 and 6.2.5; how wide the types are: this project.)
use Rattle.std.specs.Prelude.{◌≡◌, ℕ, ◌^◌, Bool, true, nat_lt, ℤ, pos, negsuc, Option, Some, None}
use Rattle.std.specs.List.{AllByRecursion}
use Rattle.cl_value.specs.Acts.{ask_of, reply_of}
use Rattle.cl_value.specs.Plain.{PlainPart, Ready, Call, PlainAsk, Out, In, Rd, Inp, Rdp, Eval, Land, PlainWhat, PlainAct, PlainReply, Done, Got, Miss, PlainStart, Main, Lives}
use Rattle.cl_value.specs.declared.template.Slot.{Slot}
use Rattle.cl_value.specs.declared.template.Slot.TheVariants as slots
use Rattle.cl_value.specs.declared.value.Value.{Value}
use Rattle.cl_value.specs.declared.value.Value.TheVariants as values

-- whether a number lies from -2 ^ bits to 2 ^ bits - 1
abbrev pub is_within : ℕ → ℤ → Bool
is_within bits (pos n) = nat_lt n (2 ^ bits)
is_within bits (negsuc n) = nat_lt n (2 ^ bits)

-- a value lies within the range of its type
abbrev pub IsWithin : Value → Type 0
IsWithin (values.Int n) = is_within 31 n ≡ true
IsWithin (values.Long n) = is_within 63 n ≡ true
IsWithin (values.Char n) = nat_lt n 256 ≡ true
IsWithin (values.Text n) = Unit {0}

-- and it is no text
abbrev pub IsNumberWithin : Value → Type 0
IsNumberWithin (values.Int n) = is_within 31 n ≡ true
IsNumberWithin (values.Long n) = is_within 63 n ≡ true
IsNumberWithin (values.Char n) = nat_lt n 256 ≡ true
IsNumberWithin (values.Text n) = ⊥

-- an actual does
abbrev pub SlotWithin : Slot → Type 0
SlotWithin (slots.Actual v) = IsWithin v
SlotWithin (slots.Formal type) = Unit {0}

-- a field of a live tuple does; the arguments of a call are numbers
abbrev pub PartWithin : PlainPart → Type 0
PartWithin (Ready v) = IsWithin v
PartWithin (Call number vs gives) = AllByRecursion IsNumberWithin vs

-- the values of an operation do
abbrev pub AskWithin : PlainAsk → Type 0
AskWithin (Out t) = AllByRecursion IsWithin t
AskWithin (In m) = AllByRecursion SlotWithin m
AskWithin (Rd m) = AllByRecursion SlotWithin m
AskWithin (Inp m) = AllByRecursion SlotWithin m
AskWithin (Rdp m) = AllByRecursion SlotWithin m
AskWithin (Eval live) = AllByRecursion PartWithin live
AskWithin (Land t) = AllByRecursion IsWithin t

-- the values of a reply do
abbrev pub ReplyWithin : PlainReply → Type 0
ReplyWithin Done = Unit {0}
ReplyWithin (Got t) = AllByRecursion IsWithin t
ReplyWithin Miss = Unit {0}

-- and of a reply, where there is one
abbrev pub ReplyWithinIfAny : Option PlainReply → Type 0
ReplyWithinIfAny None = Unit {0}
ReplyWithinIfAny (Some reply) = ReplyWithin reply

-- the values with which a process begins do
abbrev pub StartWithin : PlainStart → Type 0
StartWithin Main = Unit {0}
StartWithin (Lives site live depth) = AllByRecursion PartWithin live

-- what was asked for, and the tuple that was taken or read
abbrev pub WhatWithin : PlainWhat → Type 0
WhatWithin what = AskWithin (ask_of what) × ReplyWithinIfAny (reply_of what)

-- the values of an act do
abbrev pub ActWithin : PlainAct → Type 0
ActWithin act = WhatWithin act.what
