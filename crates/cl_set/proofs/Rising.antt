-- Tickets that rise.
use Rattle.std.proofs.Common.{ℕ, ◌+◌, ◌<◌, List, [], ◌∷◌, ◌++◌, arith}
use Rattle.std.proofs.lemmas.List.Elements.{All-nil, All-push, All-head, All-tail, All-weaker}
use Rattle.cl_value.specs.Plain.{PlainAct}
use Rattle.cl_value.specs.Tickets.{IsAbove, TicketsRise}

-- tickets rise with an act more, whose ticket is above theirs
pub rise-push : (acts : List PlainAct) (act : PlainAct) → TicketsRise acts → IsAbove act.ticket acts → TicketsRise (acts ++ act ∷ [])
rise-push [] act rise above = (All-nil (λ (later : PlainAct). act.ticket < later.ticket), tt)
rise-push (a ∷ acts) act rise above =
    (All-push (λ (later : PlainAct). a.ticket < later.ticket) acts act rise.0 (All-head (λ (b : PlainAct). b.ticket < act.ticket) a acts above), rise-push acts act rise.1 (All-tail (λ (b : PlainAct). b.ticket < act.ticket) a acts above))

-- a ticket above that of the last act is above all
pub above-push : (n : ℕ) (acts : List PlainAct) (act : PlainAct) → IsAbove act.ticket acts → act.ticket < n → IsAbove n (acts ++ act ∷ [])
above-push n acts act above more =
    All-push (λ (a : PlainAct). a.ticket < n) acts act (All-weaker (λ (a : PlainAct). a.ticket < act.ticket) (λ (a : PlainAct). a.ticket < n) (λ a h. omega arith) acts above) more

-- and so is a greater one
pub above-more : (n : ℕ) (acts : List PlainAct) → IsAbove n acts → IsAbove (n + 1) acts
above-more n acts above = All-weaker (λ (a : PlainAct). a.ticket < n) (λ (a : PlainAct). a.ticket < n + 1) (λ a h. omega arith) acts above

pub ruleset above = (above-push, above-more)
