-- The two ways to say that tickets rise say the same.
use Rattle.std.proofs.Common.{ℕ, ◌<◌, List, [], ◌∷◌, arith}
use Rattle.std.specs.Prelude.{All}
use Rattle.std.proofs.lemmas.List.Elements.{All-nil, All-cons, All-head, All-weaker}
use Rattle.cl_value.specs.Plain.{PlainAct}
use Rattle.cl_value.specs.Tickets.{TicketsRise, Rises}

-- what rises from above a ticket is above it
rises-above : (n : ℕ) (acts : List PlainAct) → Rises n acts → All (λ (later : PlainAct). n < later.ticket) acts
rises-above n [] h = All-nil (λ (later : PlainAct). n < later.ticket)
rises-above n (act ∷ acts) h =
    All-cons (λ (later : PlainAct). n < later.ticket) act acts h.0
    (All-weaker (λ (later : PlainAct). act.ticket < later.ticket) (λ (later : PlainAct). n < later.ticket) (λ later more. let first = h.0 in omega arith) acts (rises-above act.ticket acts h.1))

-- each of the next is each of all behind
pub rise-from-next : (n : ℕ) (acts : List PlainAct) → Rises n acts → TicketsRise acts
rise-from-next n [] h = tt
rise-from-next n (act ∷ acts) h = (rises-above act.ticket acts h.1, rise-from-next act.ticket acts h.1)

-- and all behind are above the next
pub next-from-rise : (n : ℕ) (acts : List PlainAct) → All (λ (later : PlainAct). n < later.ticket) acts → TicketsRise acts → Rises n acts
next-from-rise n [] above h = tt
next-from-rise n (act ∷ acts) above h =
    (All-head (λ (later : PlainAct). n < later.ticket) act acts above, next-from-rise act.ticket acts h.0 h.1)
