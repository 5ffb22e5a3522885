-- What was done, from what was asked and what was found for it. (Gelernter 1985; Carriero and Gelernter, "How to Write Parallel Programs".)
use Rattle.std.specs.Prelude.{◌≡◌, ℕ, IsTrue, List, Option, Some, None}
use Rattle.cl_value.specs.Answers.{take_answer, read_answer, take_now_answer, read_now_answer, answer}
use Rattle.cl_value.specs.Fields.{Fields}
use Rattle.cl_value.specs.Matching.{matches}
use Rattle.cl_value.specs.Plain.{PlainAsk, Out, In, Rd, Inp, Rdp, Eval, Land, PlainWhat, DidOut, DidEval, DidLand, PlainAct}
use Rattle.cl_value.specs.Replay.{found}
use Rattle.cl_value.specs.declared.value.Value.{Value}
use Rattle.cl_value.specs.declared.template.Slot.{Slot}

-- the fields of a tuple, where there is one
abbrev pub fields_if_any : Option Fields → Option (List Value)
fields_if_any None = None
fields_if_any (Some tuple) = Some tuple.items

-- what was done: the ask with the tuple that it took or read, or none
abbrev pub answered : PlainAsk → Option (List Value) → PlainWhat
answered (Out t) got = DidOut t
answered (In m) got = take_answer m got
answered (Rd m) got = read_answer m got
answered (Inp m) got = take_now_answer m got
answered (Rdp m) got = read_now_answer m got
answered (Eval live) got = DidEval live
answered (Land t) got = DidLand t

-- a tuple that was waited for is there and matches
abbrev pub IsMatch : List Slot → Option (List Value) → Type 0
IsMatch m None = ⊥
IsMatch m (Some t) = IsTrue (matches m t)

-- a tuple matches where it is there
abbrev pub IsMatchIfAny : List Slot → Option (List Value) → Type 0
IsMatchIfAny m None = Unit {0}
IsMatchIfAny m (Some t) = IsTrue (matches m t)

-- there is none
abbrev pub IsNone : Option (List Value) → Type 0
IsNone None = Unit {0}
IsNone (Some t) = ⊥

-- what was found may answer what was asked: a match where a tuple is waited for, a match or none where it isn't, and none where no tuple is asked for
abbrev pub MayAnswer : PlainAsk → Option (List Value) → Type 0
MayAnswer (Out t) got = IsNone got
MayAnswer (In m) got = IsMatch m got
MayAnswer (Rd m) got = IsMatch m got
MayAnswer (Inp m) got = IsMatchIfAny m got
MayAnswer (Rdp m) got = IsMatchIfAny m got
MayAnswer (Eval live) got = IsNone got
MayAnswer (Land t) got = IsNone got

-- what a list of tuples has for an ask
abbrev pub found_for : List (List Value) → PlainAsk → Option (List Value)
found_for ts (Out t) = None
found_for ts (In m) = found ts m
found_for ts (Rd m) = found ts m
found_for ts (Inp m) = found ts m
found_for ts (Rdp m) = found ts m
found_for ts (Eval live) = None
found_for ts (Land t) = None

-- what a list of tuples answers is the ask with what the list has for it
abbrev pub AnswersFromFound : Type 0
AnswersFromFound = (ts : List (List Value)) (ask : PlainAsk) → answer ts ask ≡ answered ask (found_for ts ask)

-- an act of these parts
abbrev pub done : ℕ → ℕ → ℕ → PlainWhat → PlainAct
done ticket proc site what = record { ticket = ticket; proc = proc; site = site; what = what }
