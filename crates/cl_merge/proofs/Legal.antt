-- Acts of processes, by ticket, that take and miss rightly are a legal history.
use Rattle.std.proofs.Common.{◌≡◌, is_none, ℕ, false, List, [], ◌∷◌, ◌++◌, None, refl, sym, ap, subst, ◌∙◌, arith, eq-eqb}
use Rattle.cl_value.specs.Acts.{ask_of, acts_of}
use Rattle.cl_value.specs.Plain.{PlainWhat, DidOut, DidIn, DidRd, InpHit, InpMiss, RdpHit, RdpMiss, DidEval, DidLand, PlainAct}
use Rattle.cl_value.specs.Replay.{replayed, replay_from, OldestFrom, replay, TakesOldest, Oldest, MissesRightly, MissesFrom}
use Rattle.cl_value.specs.Tickets.{NumberedFrom}
use Rattle.cl_value.specs.declared.value.Value.{Value}
use Rattle.cl_model.specs.Bag.{Bag}
use Rattle.cl_model.specs.Demand.{Demands}
use Rattle.cl_model.specs.Machine.{State, bag_after, changed, after_from, first, after, BagAllows, NameAllows, MayCome, Legal}
use Rattle.cl_merge.specs.Processes.{Started, process_after, AreProcesses}
use Rattle.cl_model.proofs.Following.{each_act_answers}
use Rattle.cl_model.proofs.Answering.{answers_agree}
use Rattle.cl_value.specs.Answers.{answer, waits, take_answer, read_answer, take_now_answer, read_now_answer}
use Rattle.cl_merge.proofs.Places.{steps_each, oldest_at, oldest_front, misses_at, misses_front, of_append, of_here}
use Rattle.cl_model.specs.Counting.{Counts}
use Rattle.cl_model.specs.Processes.{Follows}
use Rattle.cl_merge.proofs.Standing.{stand_at, owner, its_process, its_ticket}

-- an act that takes and misses rightly is what the list answers to its operation, which needn't wait
abbrev IsAnswer : List (List Value) → PlainWhat → Type 0
IsAnswer ts what = (waits ts (ask_of what) ≡ false) × (answer ts (ask_of what) ≡ what)

is_answer : (ts : List (List Value)) (what : PlainWhat) → TakesOldest ts what → MissesRightly ts what → IsAnswer ts what
is_answer ts (DidOut t) o m = (refl, refl)
is_answer ts (DidIn q t) o m = (ap is_none o, ap (take_answer q) o)
is_answer ts (DidRd q t) o m = (ap is_none o, ap (read_answer q) o)
is_answer ts (InpHit q t) o m = (refl, ap (take_now_answer q) o)
is_answer ts (InpMiss q) o m = (refl, ap (take_now_answer q) m)
is_answer ts (RdpHit q t) o m = (refl, ap (read_now_answer q) o)
is_answer ts (RdpMiss q) o m = (refl, ap (read_now_answer q) m)
is_answer ts (DidEval live) o m = (refl, refl)
is_answer ts (DidLand t) o m = (refl, refl)

-- so the bag allows it, and still counts what is left
keeps_count : (bag : Bag) (ts : List (List Value)) (what : PlainWhat) → Counts bag ts → TakesOldest ts what → MissesRightly ts what → BagAllows bag what × Counts (bag_after bag what) (replayed ts what)
keeps_count bag ts what c o m =
    let is = is_answer ts what o m in
    subst (λ w. BagAllows bag w × Counts (bag_after bag w) (replayed ts w)) is.1 (answers_agree bag ts c (ask_of what) is.0)

name_allows : (state : State) (what : PlainWhat) (ticket : ℕ) → state.process ticket ≡ None → NameAllows state what ticket
name_allows state (DidOut t) ticket h = tt
name_allows state (DidIn q t) ticket h = tt
name_allows state (DidRd q t) ticket h = tt
name_allows state (InpHit q t) ticket h = tt
name_allows state (InpMiss q) ticket h = tt
name_allows state (RdpHit q t) ticket h = tt
name_allows state (RdpMiss q) ticket h = tt
name_allows state (DidEval live) ticket h = h
name_allows state (DidLand t) ticket h = tt

-- the bag after acts that take the oldest match and miss where there is none
counts_from : (state : State) (ts : List (List Value)) (acts : List PlainAct) → OldestFrom ts acts → MissesFrom ts acts → Counts state.bag ts → Counts (after_from state acts).bag (replay_from ts acts)
counts_from state ts [] o m c = c
counts_from state ts (act ∷ acts) o m c = counts_from (changed state act) (replayed ts act.what) acts o.1 m.1 (keeps_count state.bag ts act.what c o.0 m.0).1

pub counts : (acts : List PlainAct) → Oldest acts → MissesFrom [] acts → Counts (after acts).bag (replay acts)
counts acts o m = counts_from first [] acts o m (record { each = λ u. refl })

module _ (demands : Demands) (acts : List PlainAct) (processes : List Started) (numbered : NumberedFrom 1 acts) (are : AreProcesses demands acts processes) (oldest : Oldest acts) (misses : MissesFrom [] acts) where
  -- each act may come after those before it
  pub may_come : (before : List PlainAct) (act : PlainAct) (behind : List PlainAct) → acts ≡ before ++ act ∷ behind → MayCome demands (after before) act
  may_come before act behind e =
      let stand = stand_at demands acts processes numbered are before (act ∷ behind) e in
      let o = owner demands acts processes numbered are before act behind e stand in
      let t = its_ticket demands acts processes numbered are before act behind e stand in
      let own : acts_of o.0.name acts ≡ acts_of o.0.name before ++ act ∷ acts_of o.0.name behind =
      ap (acts_of o.0.name) e ∙ (of_append o.0.name before (act ∷ behind) ∙ ap (λ xs. acts_of o.0.name before ++ xs) (of_here o.0.name act behind (eq-eqb act.proc o.0.name (sym o.2)))) in
      let f = each_act_answers demands o.0.start (acts_of o.0.name before) act (acts_of o.0.name behind) (subst (Follows demands o.0.start []) own (are.follows o.0 o.1)) in
      let taken = subst Oldest e oldest in
      let missed = subst (MissesFrom []) e misses in
      record {
        process = process_after o.0 before;
        stands = its_process demands acts processes numbered are before act behind e stand o.0 o.1 o.2;
        not_landed = f.1;
        demanded = f.0;
        bag = (keeps_count (after before).bag (replay before) act.what (counts before (oldest_front [] before (act ∷ behind) taken) (misses_front [] before (act ∷ behind) missed)) (oldest_at [] before act behind taken) (misses_at [] before act behind missed)).0;
        name = name_allows (after before) act.what act.ticket (stand.none act.ticket (omega arith));
      }

  pub legal : Legal demands acts
  legal = record { numbered = numbered; steps = steps_each demands first acts may_come }
