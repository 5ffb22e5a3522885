-- What an act says of its process: its request, the reply that it got, and whether a reply fits.
-- (Gelernter 1985; Carriero and Gelernter, "How to Write Parallel Programs".)
use Rattle.std.specs.Prelude.{◌≡◌, ℕ, Bool, true, false, ◌==◌, if◌then◌else◌, List, [], ◌∷◌, Option, Some, None}
use Rattle.std.specs.List.{list_any}
use Rattle.cl_value.specs.Matching.{matches}
use Rattle.cl_value.specs.declared.value.Value.{Value}
use Rattle.cl_value.specs.declared.template.Slot.{Slot}
use Rattle.cl_value.specs.Plain.{PlainAsk, Out, In, Rd, Inp, Rdp, Eval, Land, PlainRequest, PlainWhat, DidOut, DidIn, DidRd, InpHit, InpMiss, RdpHit, RdpMiss, DidEval, DidLand, PlainAct, PlainReply, Done, Got, Miss}

-- the operation that was asked for
abbrev pub ask_of : PlainWhat → PlainAsk
ask_of (DidOut t) = Out t
ask_of (DidIn m t) = In m
ask_of (DidRd m t) = Rd m
ask_of (InpHit m t) = Inp m
ask_of (InpMiss m) = Inp m
ask_of (RdpHit m t) = Rdp m
ask_of (RdpMiss m) = Rdp m
ask_of (DidEval live) = Eval live
ask_of (DidLand t) = Land t

-- the request that an act answers
abbrev pub request_of : PlainAct → PlainRequest
request_of act = record { site = act.site; ask = ask_of act.what }

-- whether a site is one of these
abbrev pub is_site_of : List ℕ → ℕ → Bool
is_site_of sites site = list_any (λ other. other == site) sites

-- an operation adds this tuple
abbrev pub Adds : PlainAsk → List Value → Type 0
Adds (Out t) tuple = t ≡ tuple
Adds (Land t) tuple = t ≡ tuple
Adds _ tuple = ⊥

-- an operation asks with this template
abbrev pub AsksWith : PlainAsk → List Slot → Type 0
AsksWith (In m) template = m ≡ template
AsksWith (Rd m) template = m ≡ template
AsksWith (Inp m) template = m ≡ template
AsksWith (Rdp m) template = m ≡ template
AsksWith _ template = ⊥

-- what the process is told; a landing has no reply
abbrev pub reply_of : PlainWhat → Option PlainReply
reply_of (DidOut t) = Some Done
reply_of (DidIn m t) = Some (Got t)
reply_of (DidRd m t) = Some (Got t)
reply_of (InpHit m t) = Some (Got t)
reply_of (InpMiss m) = Some Miss
reply_of (RdpHit m t) = Some (Got t)
reply_of (RdpMiss m) = Some Miss
reply_of (DidEval live) = Some Done
reply_of (DidLand t) = None

-- whether a reply fits an operation
abbrev pub fits : PlainAsk → PlainReply → Bool
fits (Out t) Done = true
fits (Eval live) Done = true
fits (In m) (Got t) = matches m t
fits (Rd m) (Got t) = matches m t
fits (Inp m) (Got t) = matches m t
fits (Inp m) Miss = true
fits (Rdp m) (Got t) = matches m t
fits (Rdp m) Miss = true
fits _ _ = false

-- the acts of one process, in order
abbrev pub acts_of : ℕ → List PlainAct → List PlainAct
acts_of name [] = []
acts_of name (act ∷ acts) = if act.proc == name then act ∷ acts_of name acts else acts_of name acts

-- whether an act makes a process
abbrev pub is_eval : PlainWhat → Bool
is_eval (DidEval live) = true
is_eval _ = false

-- the tickets of the acts that make a process, which are the names of the processes made
abbrev pub names_made : List PlainAct → List ℕ
names_made [] = []
names_made (act ∷ acts) = if is_eval act.what then act.ticket ∷ names_made acts else names_made acts
