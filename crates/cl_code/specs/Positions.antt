-- Where the machine is, and where its instructions lead it, whatever its cells hold. (This project.)
use Rattle.std.specs.Prelude.{◌≡◌, ℕ, suc, List, [], ◌∷◌, slice_get, Option, Some, None, ℤ, IsTrue}
use Rattle.cl_value.specs.Plain.{PlainReply}
use Rattle.cl_value.specs.Acts.{fits}
use Rattle.cl_model.specs.Doing.{Steps, Gives, Prints, Asks, Stops, State}
use Rattle.cl_code.specs.Plain.{PlainFunction, PlainProgram}
use Rattle.cl_code.specs.Machine.{Cells, Stack, Way, On, To, Past, Over, Into, Lost, effect}
use Rattle.cl_code.specs.declared.instr.Instr.{Instr}

-- a function that waits for the result of one that it called: the address behind the call, and its stack
pub record Caller : Type 0 where
  pub place : ℕ
  pub stack : Stack

-- the functions that wait, the last that called first; and the address of the next instruction, with the active function's stack
pub record Position : Type 0 where
  pub callers : List Caller
  pub place : ℕ
  pub stack : Stack

-- what steps may give, where each reply fits its request
abbrev pub MayGive : {A : Type 0} → Steps (A × State Cells) → A → Type 0
MayGive (Gives r) a = r.0 ≡ a
MayGive (Prints bytes rest) a = MayGive rest a
MayGive (Asks q rest) a = (reply : PlainReply) × IsTrue (fits q.ask reply) × MayGive (rest reply) a
MayGive (Stops t) a = ⊥

-- the instruction at this position may lead this way, from any cells and limits
abbrev pub MayLead : PlainProgram → ℕ → Position → Way → Type 0
MayLead p depth x way = (i : Instr) × (slice_get p.code x.place ≡ Some i) × (s : State Cells) × MayGive (effect p depth i x.stack s) way

-- where a function is entered, if it is there
abbrev pub entry_of : List Caller → Option PlainFunction → Option Position
entry_of callers None = None
entry_of callers (Some f) = Some (record { callers = callers; place = f.entry; stack = [] })

-- where a result goes: to the caller, if there is one
abbrev pub returned_to : List Caller → ℤ → Option Position
returned_to [] n = None
returned_to (caller ∷ callers) n = Some (record { callers = callers; place = caller.place; stack = n ∷ caller.stack })

-- the position at the end of a way: none behind the outermost function, and none where an instruction can't be done
abbrev pub led_to : PlainProgram → Position → Way → Option Position
led_to p x (On stack) = Some (record { callers = x.callers; place = suc x.place; stack = stack })
led_to p x (To to stack) = Some (record { callers = x.callers; place = to; stack = stack })
led_to p x (Past stack) = Some (record { callers = x.callers; place = suc x.place; stack = stack })
led_to p x (Over n) = returned_to x.callers n
led_to p x (Into f arguments stack) = entry_of (record { place = suc x.place; stack = stack } ∷ x.callers) (slice_get p.functions f)
led_to p x Lost = None

-- the positions to which the machine may come from the entry of a function
pub data Reached (p : PlainProgram) (depth : ℕ) : Position → Type 0 where
  Begins : (f : ℕ) (x : Position) → entry_of [] (slice_get p.functions f) ≡ Some x → Reached p depth x
  GoesOn : (x : Position) (way : Way) (y : Position) → Reached p depth x → MayLead p depth x way → led_to p x way ≡ Some y → Reached p depth y
