-- Acts as bytes. (This project's own.)
use Rattle.std.specs.Prelude.{ℕ, ◌+◌, ◌-◌, ◌*◌, ◌<◌, ◌≤◌, ◌^◌, IsTrue, List, [], ◌∷◌, ◌++◌, length, Option, Some, None}
use Rattle.std.specs.List.{AllByRecursion}
use Rattle.cl_value.specs.Matching.{matches}
use Rattle.cl_value.specs.Plain.{PlainPart, Ready, Call, PlainWhat, DidOut, DidIn, DidRd, InpHit, InpMiss, RdpHit, RdpMiss, DidEval, DidLand, PlainAct}
use Rattle.cl_value.specs.declared.template.Slot.{Slot}
use Rattle.cl_value.specs.declared.template.Slot.TheVariants as slots
use Rattle.cl_value.specs.declared.value.Value.{Value}
use Rattle.cl_log.specs.Numbers.{number}
use Rattle.cl_log.specs.Values.{HasBytes, values_of, hits_of, slots_of, parts_of}

-- the number of what was done
abbrev pub kind_code : PlainWhat → ℕ
kind_code (DidOut t) = 0
kind_code (DidIn m t) = 1
kind_code (DidRd m t) = 2
kind_code (InpHit m t) = 3
kind_code (InpMiss m) = 4
kind_code (RdpHit m t) = 5
kind_code (RdpMiss m) = 6
kind_code (DidEval live) = 7
kind_code (DidLand t) = 8

-- the number of fields
abbrev pub count_of : PlainWhat → ℕ
count_of (DidOut t) = length t
count_of (DidIn m t) = length t
count_of (DidRd m t) = length t
count_of (InpHit m t) = length t
count_of (InpMiss m) = length m
count_of (RdpHit m t) = length t
count_of (RdpMiss m) = length m
count_of (DidEval live) = length live
count_of (DidLand t) = length t

-- the fields
abbrev pub fields_of : PlainWhat → List ℕ
fields_of (DidOut t) = values_of t
fields_of (DidIn m t) = hits_of m t
fields_of (DidRd m t) = hits_of m t
fields_of (InpHit m t) = hits_of m t
fields_of (InpMiss m) = slots_of m
fields_of (RdpHit m t) = hits_of m t
fields_of (RdpMiss m) = slots_of m
fields_of (DidEval live) = parts_of live
fields_of (DidLand t) = values_of t

-- an act behind one of the ticket before: what was done with the number of fields in one byte, how much greater the ticket is, the process, the
-- site, and the fields
unfoldable pub act_of : ℕ → PlainAct → List ℕ
act_of before act =
    (16 * kind_code act.what + (count_of act.what - 1)) ∷ (number (act.ticket - before) ++ number act.proc ++ number act.site ++ fields_of act.what)

-- acts, one after another
unfoldable pub acts_of : ℕ → List PlainAct → List ℕ
acts_of before [] = []
acts_of before (act ∷ acts) = act_of before act ++ acts_of act.ticket acts

-- an actual has bytes, and so has a formal
abbrev pub SlotHasBytes : Slot → Type 0
SlotHasBytes (slots.Actual value) = HasBytes value
SlotHasBytes (slots.Formal type) = Unit {0}

-- a field of a live tuple has bytes, with no more arguments than so many
abbrev pub PartHasBytes : PlainPart → Type 0
PartHasBytes (Ready value) = HasBytes value
PartHasBytes (Call function arguments gives) = (function < 2 ^ 32) × (length arguments < 2 ^ 64) × AllByRecursion HasBytes arguments

-- a hit: the tuple matches
abbrev pub HitHasBytes : List Slot → List Value → Type 0
HitHasBytes m t = IsTrue (matches m t) × AllByRecursion HasBytes t

-- what was done has bytes
abbrev pub WhatHasBytes : PlainWhat → Type 0
WhatHasBytes (DidOut t) = AllByRecursion HasBytes t
WhatHasBytes (DidIn m t) = HitHasBytes m t
WhatHasBytes (DidRd m t) = HitHasBytes m t
WhatHasBytes (InpHit m t) = HitHasBytes m t
WhatHasBytes (InpMiss m) = AllByRecursion SlotHasBytes m
WhatHasBytes (RdpHit m t) = HitHasBytes m t
WhatHasBytes (RdpMiss m) = AllByRecursion SlotHasBytes m
WhatHasBytes (DidEval live) = AllByRecursion PartHasBytes live
WhatHasBytes (DidLand t) = AllByRecursion HasBytes t

-- an act has bytes behind one of the ticket before
pub record ActHasBytes (before : ℕ) (act : PlainAct) : Type 0 where
  pub later : before ≤ act.ticket
  pub ticket : act.ticket < 2 ^ 64
  pub proc : act.proc < 2 ^ 64
  pub site : act.site < 2 ^ 32
  pub some : 0 < count_of act.what
  pub few : count_of act.what ≤ 16
  pub what : WhatHasBytes act.what

-- acts have bytes, one after another
abbrev pub HaveBytes : ℕ → List PlainAct → Type 0
HaveBytes before [] = Unit {0}
HaveBytes before (act ∷ acts) = ActHasBytes before act × HaveBytes act.ticket acts

-- the ticket of the last act, or that of the act before
abbrev pub last_ticket : ℕ → List PlainAct → ℕ
last_ticket before [] = before
last_ticket before (act ∷ acts) = last_ticket act.ticket acts

-- the fields of an answer to a template: of a hit, or of a miss
abbrev pub answer_bytes : List Slot → Option (List Value) → List ℕ
answer_bytes m None = slots_of m
answer_bytes m (Some t) = hits_of m t

-- their number
abbrev pub answer_count : List Slot → Option (List Value) → ℕ
answer_count m None = length m
answer_count m (Some t) = length t

-- they have bytes
abbrev pub AnswerHasBytes : List Slot → Option (List Value) → Type 0
AnswerHasBytes m None = AllByRecursion SlotHasBytes m
AnswerHasBytes m (Some t) = HitHasBytes m t
