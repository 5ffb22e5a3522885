-- A history with one more act, and what a history tells of its state.
use Rattle.std.proofs.Common.{◌≡◌, ℕ, ◌+◌, Bool, true, false, cond, List, [], ◌∷◌, ◌++◌, length, refl, ap, ◌∙◌, arith, append-nil}
use Rattle.std.specs.Prelude.{nat_lt}
use Rattle.std.proofs.lemmas.Bool.{ltb-false}
use Rattle.cl_value.specs.Replay.{replayed, replay_from, TakesOldest, OldestFrom}
use Rattle.cl_value.specs.Tickets.{NumberedFrom, placed, in_order, by_ticket}
use Rattle.cl_value.specs.Plain.{PlainAct, PlainHistory}
use Rattle.cl_value.specs.declared.value.Value.{Value}
use Rattle.cl_model.specs.Demand.{Demands}
use Rattle.cl_model.specs.Machine.{State, first, changed, after_from, after, MayCome, StepsFrom, Legal}

pub after_push : (state : State) (acts : List PlainAct) (act : PlainAct) → after_from state (acts ++ act ∷ []) ≡ changed (after_from state acts) act
after_push state [] act = refl
after_push state (x ∷ xs) act = after_push (changed state x) xs act

pub steps_push : (demands : Demands) (state : State) (acts : List PlainAct) (act : PlainAct) → StepsFrom demands state acts → MayCome demands (after_from state acts) act → StepsFrom demands state (acts ++ act ∷ [])
steps_push demands state [] act s m = (m, tt)
steps_push demands state (x ∷ xs) act s m = (s.0, steps_push demands (changed state x) xs act s.1 m)

pub numbered_push : (n : ℕ) (acts : List PlainAct) (act : PlainAct) → NumberedFrom n acts → act.ticket ≡ n + length acts → NumberedFrom n (acts ++ act ∷ [])
numbered_push n [] act s h = (omega arith, tt)
numbered_push n (x ∷ xs) act s h = (s.0, numbered_push (n + 1) xs act s.1 (omega arith))

-- legal, then one more act
pub legal_push : (demands : Demands) (acts : List PlainAct) (act : PlainAct) → Legal demands acts → act.ticket ≡ length acts + 1 → MayCome demands (after acts) act → Legal demands (acts ++ act ∷ [])
legal_push demands acts act l t m = record { numbered = numbered_push 1 acts act l.numbered (omega arith); steps = steps_push demands first acts act l.steps m }

pub legal_nil : (demands : Demands) → Legal demands []
legal_nil demands = record { numbered = tt; steps = tt }

pub replay_push : (ts : List (List Value)) (acts : List PlainAct) (act : PlainAct) → replay_from ts (acts ++ act ∷ []) ≡ replayed (replay_from ts acts) act.what
replay_push ts [] act = refl
replay_push ts (x ∷ xs) act = replay_push (replayed ts x.what) xs act

pub oldest_push : (ts : List (List Value)) (acts : List PlainAct) (act : PlainAct) → OldestFrom ts acts → TakesOldest (replay_from ts acts) act.what → OldestFrom ts (acts ++ act ∷ [])
oldest_push ts [] act o t = (t, tt)
oldest_push ts (x ∷ xs) act o t = (o.0, oldest_push (replayed ts x.what) xs act o.1 t)

-- acts whose tickets rise one by one are in order already
pub in_order_numbered : (n : ℕ) (acts : List PlainAct) → NumberedFrom n acts → in_order acts ≡ acts
in_order_numbered n [] h = refl
in_order_numbered n (act ∷ []) h = refl
in_order_numbered n (act ∷ next ∷ acts) h = rw (in_order_numbered (n + 1) (next ∷ acts) h.1) (by_test (nat_lt act.ticket next.ticket) refl)
  where
    by_test : (b : Bool) → nat_lt act.ticket next.ticket ≡ b → cond (nat_lt act.ticket next.ticket) (act ∷ next ∷ acts) (next ∷ placed act acts) ≡ act ∷ next ∷ acts
    by_test true e = rw e refl
    by_test false e = absurd (omega (arith, ltb-false act.ticket next.ticket e, h.0, h.1.0))

-- the one history of a run that has one
pub by_ticket_one : (history : PlainHistory) → NumberedFrom 1 history.acts → by_ticket (history ∷ []) ≡ history.acts
by_ticket_one history h = ap in_order (append-nil history.acts) ∙ in_order_numbered 1 history.acts h
