-- Histories in order of their tickets have as many acts.
use Rattle.std.proofs.Common.{◌≡◌, ◌+◌, Bool, true, false, cond, List, [], ◌∷◌, length, refl, ◌∙◌, arith, nat_lt}
use Rattle.cl_value.specs.Plain.{PlainAct, PlainHistory}
use Rattle.cl_value.specs.Tickets.{placed, in_order, acts_in, by_ticket}

length-placed : (act : PlainAct) (acts : List PlainAct) → length (placed act acts) ≡ length acts + 1
length-placed act [] = refl
length-placed act (next ∷ acts) = by_test (nat_lt act.ticket next.ticket) (length-placed act acts)
  where
    by_test : (b : Bool) → length (placed act acts) ≡ length acts + 1 → length (cond b (act ∷ next ∷ acts) (next ∷ placed act acts)) ≡ length (next ∷ acts) + 1
    by_test true h = omega arith
    by_test false h = omega arith

length-in_order : (acts : List PlainAct) → length (in_order acts) ≡ length acts
length-in_order [] = refl
length-in_order (act ∷ acts) = length-placed act (in_order acts) ∙ omega (arith, length-in_order acts)

pub length_by_ticket : (histories : List PlainHistory) → length (by_ticket histories) ≡ length (acts_in histories)
length_by_ticket histories = length-in_order (acts_in histories)
