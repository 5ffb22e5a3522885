-- Acts from bytes. What bytes that spell no act are read as doesn't matter. (This project's own.)
use Rattle.std.specs.Prelude.{ℕ, zero, suc, ◌+◌, ◌/◌, ◌%◌, ◌^◌, ◌==◌, if◌then◌else◌, List, [], ◌∷◌, length}
use Rattle.cl_value.specs.Plain.{PlainWhat, DidOut, DidIn, DidRd, InpHit, InpMiss, RdpHit, RdpMiss, DidEval, DidLand, PlainAct}
use Rattle.cl_log.specs.Numbers.{number_at}
use Rattle.cl_log.specs.Values.{values_at, hits_at, misses_at, parts_at}
use Rattle.cl_log.specs.declared.kind.Kind.{Kind}
use Rattle.cl_log.specs.declared.kind.Kind.TheVariants as kinds

-- what was done, by its number
abbrev pub kind_at : ℕ → Kind
kind_at n =
    if n == 0 then kinds.Out else if n == 1 then kinds.In else if n == 2 then kinds.Rd else if n == 3 then kinds.InpHit else if n == 4 then kinds.InpMiss else if n == 5 then kinds.RdpHit else if n == 6 then kinds.RdpMiss else if n == 7 then kinds.Eval else kinds.Land

-- what was done, with so many fields, and the bytes behind them
abbrev pub what_at : Kind → ℕ → List ℕ → PlainWhat × List ℕ
what_at kinds.Out count bytes = let read = values_at count bytes in (DidOut read.0, read.1)
what_at kinds.In count bytes = let read = hits_at count bytes in (DidIn read.0 read.1, read.2)
what_at kinds.Rd count bytes = let read = hits_at count bytes in (DidRd read.0 read.1, read.2)
what_at kinds.InpHit count bytes = let read = hits_at count bytes in (InpHit read.0 read.1, read.2)
what_at kinds.InpMiss count bytes = let read = misses_at count bytes in (InpMiss read.0, read.1)
what_at kinds.RdpHit count bytes = let read = hits_at count bytes in (RdpHit read.0 read.1, read.2)
what_at kinds.RdpMiss count bytes = let read = misses_at count bytes in (RdpMiss read.0, read.1)
what_at kinds.Eval count bytes = let read = parts_at count bytes in (DidEval read.0, read.1)
what_at kinds.Land count bytes = let read = values_at count bytes in (DidLand read.0, read.1)

-- an act behind its first byte, and the bytes behind it
unfoldable pub act_from : ℕ → ℕ → List ℕ → PlainAct × List ℕ
act_from before byte bytes =
    let ticket = number_at bytes in
    let proc = number_at ticket.1 in
    let site = number_at proc.1 in
    let what = what_at (kind_at (byte / 16)) (byte % 16 + 1) site.1 in
    (record { ticket = (before + ticket.0) % 2 ^ 64; proc = proc.0; site = site.0 % 2 ^ 32; what = what.0 }, what.1)

-- the acts that bytes spell, up to so many
unfoldable pub acts_from : ℕ → ℕ → List ℕ → List PlainAct
acts_from zero before bytes = []
acts_from (suc more) before [] = []
acts_from (suc more) before (byte ∷ bytes) =
    let one = act_from before byte bytes in
    one.0 ∷ acts_from more one.0.ticket one.1

-- the acts that bytes spell, all of them
unfoldable pub acts_at : ℕ → List ℕ → List PlainAct
acts_at before bytes = acts_from (length bytes) before bytes
