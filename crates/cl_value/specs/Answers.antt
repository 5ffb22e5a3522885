-- What a list of tuples answers to an operation, and when the operation waits. (Gelernter 1985; that the oldest match is taken: this project.)
use Rattle.std.specs.Prelude.{Bool, false, List, is_none, Option, Some, None}
use Rattle.cl_value.specs.Plain.{PlainAsk, Out, In, Rd, Inp, Rdp, Eval, Land, PlainWhat, DidOut, DidIn, DidRd, InpHit, InpMiss, RdpHit, RdpMiss, DidEval, DidLand}
use Rattle.cl_value.specs.Replay.{found}
use Rattle.cl_value.specs.declared.value.Value.{Value}
use Rattle.cl_value.specs.declared.template.Slot.{Slot}

-- a take that waits: with no match it counts as a miss
abbrev pub take_answer : List Slot → Option (List Value) → PlainWhat
take_answer m None = InpMiss m
take_answer m (Some t) = DidIn m t

-- a read that waits: with no match it counts as a miss
abbrev pub read_answer : List Slot → Option (List Value) → PlainWhat
read_answer m None = RdpMiss m
read_answer m (Some t) = DidRd m t

-- a take that doesn't wait
abbrev pub take_now_answer : List Slot → Option (List Value) → PlainWhat
take_now_answer m None = InpMiss m
take_now_answer m (Some t) = InpHit m t

-- a read that doesn't wait
abbrev pub read_now_answer : List Slot → Option (List Value) → PlainWhat
read_now_answer m None = RdpMiss m
read_now_answer m (Some t) = RdpHit m t

-- what a list of tuples answers to an ask
abbrev pub answer : List (List Value) → PlainAsk → PlainWhat
answer ts (Out t) = DidOut t
answer ts (In m) = take_answer m (found ts m)
answer ts (Rd m) = read_answer m (found ts m)
answer ts (Inp m) = take_now_answer m (found ts m)
answer ts (Rdp m) = read_now_answer m (found ts m)
answer ts (Eval live) = DidEval live
answer ts (Land t) = DidLand t

-- whether an operation waits: an `in` or `rd` that no tuple matches
abbrev pub waits : List (List Value) → PlainAsk → Bool
waits ts (In m) = is_none (found ts m)
waits ts (Rd m) = is_none (found ts m)
waits ts _ = false
