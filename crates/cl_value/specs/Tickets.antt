-- Several histories in order of their tickets. (This project.)
use Rattle.std.specs.Prelude.{ℕ, ◌+◌, ◌<◌, ◌≡◌, nat_lt, if◌then◌else◌, List, [], ◌∷◌, ◌++◌, All}
use Rattle.cl_value.specs.Plain.{PlainAct, PlainHistory}

-- the acts with one more, before the first of a greater ticket
abbrev pub placed : PlainAct → List PlainAct → List PlainAct
placed act [] = act ∷ []
placed act (next ∷ acts) = if nat_lt act.ticket next.ticket then act ∷ next ∷ acts else next ∷ placed act acts

-- the acts in order of their tickets
abbrev pub in_order : List PlainAct → List PlainAct
in_order [] = []
in_order (act ∷ acts) = placed act (in_order acts)

-- the acts of all histories, one after another
abbrev pub acts_in : List PlainHistory → List PlainAct
acts_in [] = []
acts_in (history ∷ histories) = history.acts ++ acts_in histories

-- each act of each history once, in order of tickets
abbrev pub by_ticket : List PlainHistory → List PlainAct
by_ticket histories = in_order (acts_in histories)

-- the tickets are these numbers, from the first on without gap
abbrev pub NumberedFrom : ℕ → List PlainAct → Type 0
NumberedFrom n [] = Unit {0}
NumberedFrom n (act ∷ acts) = (act.ticket ≡ n) × NumberedFrom (n + 1) acts

-- a ticket is above those of these acts
abbrev pub IsAbove : ℕ → List PlainAct → Type 0
IsAbove ticket acts = All (λ act. act.ticket < ticket) acts

-- the tickets of acts rise
abbrev pub TicketsRise : List PlainAct → Type 0
TicketsRise [] = Unit {0}
TicketsRise (act ∷ acts) = All (λ later. act.ticket < later.ticket) acts × TicketsRise acts

-- the tickets rise, from above n
abbrev pub Rises : ℕ → List PlainAct → Type 0
Rises n [] = Unit {0}
Rises n (act ∷ acts) = (n < act.ticket) × Rises act.ticket acts
