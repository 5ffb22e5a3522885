-- In each legal history of a text without faults whose literals fit, each act is within the ranges of types, and each process began and was told so.
use Rattle.std.proofs.Common.{◌≡◌, subst, refl, ℕ, ◌+◌, ◌-◌, ◌<◌, Bool, true, false, ◌==◌, ◌&&◌, List, [], ◌∷◌, Option, Some, None, arith}
use Rattle.std.specs.Prelude.{option_map, option_to_list, if◌then◌else◌}
use Rattle.std.specs.List.{AllByRecursion}
use Rattle.cl_value.specs.declared.value.Value.{Value}
use Rattle.cl_value.specs.Matching.{same_tuple}
use Rattle.cl_value.specs.Plain.{PlainReply, PlainStart, Main, Lives, PlainWhat, DidOut, DidIn, DidRd, InpHit, InpMiss, RdpHit, RdpMiss, DidEval, DidLand, PlainAct}
use Rattle.cl_value.specs.Acts.{reply_of, is_eval}
use Rattle.cl_ast.specs.declared.statement.Item.{Item}
use Rattle.cl_model.specs.Bag.{Bag, empty, plus, minus, Holds}
use Rattle.cl_model.specs.Demand.{Outcome}
use Rattle.cl_model.specs.Machine.{Process, State, fresh, first, bag_after, told, depth_of, made_by, made_in, changed, BagAllows, DemandAllows, after_from, StepsFrom}
use Rattle.cl_model.proofs.Matches.{same_tuple_is}
use Rattle.cl_meaning.specs.Process.{process, begun, demands}
use Rattle.cl_types.specs.Unit.{faults}
use Rattle.cl_cases.specs.Literals.{literals_fit}
use Rattle.cl_cases.specs.Ranges.{OutcomeWithin, ProcessesStayWithin, HistoriesStayWithin}
use Rattle.cl_value.specs.Ranges.{IsWithin, ReplyWithin, ReplyWithinIfAny, StartWithin, WhatWithin, ActWithin}
use Rattle.cl_cases.proofs.RangeVariables.{all_append}
use Rattle.cl_cases.proofs.RangeCalls.{process_stays, outcome_within}
use Rattle.cl_cases.proofs.RangeGlobals.{globals_begin_within}

pub processes_stay_within : ProcessesStayWithin
processes_stay_within xs none ok start h ticks =
    let leads = process_stays xs ok start h (begun xs ticks) (globals_begin_within xs none ok ticks) in
    (leads, λ replies p. outcome_within (process xs start (begun xs ticks)) [] replies leads p)

abbrev TupleWithin : List Value → Type 0
TupleWithin t = AllByRecursion IsWithin t

-- ---- the bag

-- each tuple that it holds
abbrev BagWithin : Bag → Type 0
BagWithin bag = (t : List Value) → Holds bag t → TupleWithin t

one_fewer : (n : ℕ) → 0 < n - 1 → 0 < n
one_fewer n h = omega (arith, h)

plus_within : (bag : Bag) (t : List Value) → BagWithin bag → TupleWithin t → BagWithin (plus bag t)
plus_within bag t h p u holds = by (same_tuple t u) refl holds
  where
    by : (b : Bool) → same_tuple t u ≡ b → 0 < (if b then bag u + 1 else bag u) → TupleWithin u
    by true same k = subst TupleWithin (same_tuple_is t u same) p
    by false same k = h u k

minus_within : (bag : Bag) (t : List Value) → BagWithin bag → BagWithin (minus bag t)
minus_within bag t h u holds = by (same_tuple t u) holds
  where
    by : (b : Bool) → 0 < (if b then bag u - 1 else bag u) → TupleWithin u
    by true k = h u (one_fewer (bag u) k)
    by false k = h u k

empty_within : BagWithin empty
empty_within t h = absurd (omega (arith, h))

bag_within : (bag : Bag) (what : PlainWhat) → BagWithin bag → WhatWithin what → BagWithin (bag_after bag what)
bag_within bag (DidOut t) h p = plus_within bag t h p.0
bag_within bag (DidIn m t) h p = minus_within bag t h
bag_within bag (DidRd m t) h p = h
bag_within bag (InpHit m t) h p = minus_within bag t h
bag_within bag (InpMiss m) h p = h
bag_within bag (RdpHit m t) h p = h
bag_within bag (RdpMiss m) h p = h
bag_within bag (DidEval live) h p = h
bag_within bag (DidLand t) h p = plus_within bag t h p.0

-- ---- processes

abbrev ProcessWithin : Process → Type 0
ProcessWithin p = StartWithin p.start × AllByRecursion ReplyWithin p.replies

abbrev EachWithin : State → Type 0
EachWithin state = (name : ℕ) (p : Process) → state.process name ≡ Some p → ProcessWithin p

any_within : (o : Option PlainReply) → ReplyWithinIfAny o → AllByRecursion ReplyWithin (option_to_list o)
any_within None h = tt
any_within (Some reply) h = (h, tt)

told_within : (o : Option Process) (what : PlainWhat) (p : Process) → ((q : Process) → o ≡ Some q → ProcessWithin q) → WhatWithin what → option_map (told what) o ≡ Some p → ProcessWithin p
told_within None what p h w is = absurd cc
told_within (Some q) what p h w is =
    let same : told what q ≡ p = cc in
    let own = h q refl in subst ProcessWithin same (own.0, all_append ReplyWithin q.replies (option_to_list (reply_of what)) own.1 (any_within (reply_of what) w.1))

-- a process that an `eval` makes
made_within : (site : ℕ) (what : PlainWhat) (maker : Process) (p : Process) → WhatWithin what → made_by site what maker ≡ Some p → ProcessWithin p
made_within site (DidEval live) maker p w is =
    let same : fresh (Lives site live (depth_of maker.start + 1)) ≡ p = cc in subst ProcessWithin same (w.0, tt)
made_within site (DidLand t) maker p w is = absurd cc
made_within site (DidOut t) maker p w is = absurd cc
made_within site (DidIn m t) maker p w is = absurd cc
made_within site (DidRd m t) maker p w is = absurd cc
made_within site (InpHit m t) maker p w is = absurd cc
made_within site (InpMiss m) maker p w is = absurd cc
made_within site (RdpHit m t) maker p w is = absurd cc
made_within site (RdpMiss m) maker p w is = absurd cc

changed_within : (state : State) (act : PlainAct) → EachWithin state → ActWithin act → EachWithin (changed state act)
changed_within state act h w name p is = by (name == act.proc) (is_eval act.what && name == act.ticket) is
  where
    made : (o : Option Process) → elim o [ None ↦ None | Some maker ↦ made_by act.site act.what maker ] ≡ Some p → ProcessWithin p
    made None m = absurd cc
    made (Some maker) m = made_within act.site act.what maker p w m

    by : (b c : Bool) → (if b then option_map (told act.what) (state.process name) else (if c then made_in state act else state.process name)) ≡ Some p → ProcessWithin p
    by true c e = told_within (state.process name) act.what p (λ q is. h name q is) w e
    by false true e = made (state.process act.proc) e
    by false false e = h name p e

-- ---- histories

module _ (xs : List Item) (none : faults xs ≡ []) (ok : literals_fit xs ≡ true) (ticks : ℕ) where
  act_within : (ticket proc site : ℕ) (what : PlainWhat) (start : PlainStart) (outcome : Outcome) (bag : Bag) → OutcomeWithin outcome → BagWithin bag →
      DemandAllows what (record { ticket = ticket; proc = proc; site = site; what = what }) start outcome → BagAllows bag what → WhatWithin what
  act_within ticket proc site (DidLand t) start outcome bag h b d a = (subst OutcomeWithin d.1 h, tt)
  act_within ticket proc site (DidOut t) start outcome bag h b d a = (subst OutcomeWithin d h, tt)
  act_within ticket proc site (DidIn m t) start outcome bag h b d a = (subst OutcomeWithin d h, b t a.1)
  act_within ticket proc site (DidRd m t) start outcome bag h b d a = (subst OutcomeWithin d h, b t a.1)
  act_within ticket proc site (InpHit m t) start outcome bag h b d a = (subst OutcomeWithin d h, b t a.1)
  act_within ticket proc site (InpMiss m) start outcome bag h b d a = (subst OutcomeWithin d h, tt)
  act_within ticket proc site (RdpHit m t) start outcome bag h b d a = (subst OutcomeWithin d h, b t a.1)
  act_within ticket proc site (RdpMiss m) start outcome bag h b d a = (subst OutcomeWithin d h, tt)
  act_within ticket proc site (DidEval live) start outcome bag h b d a = (subst OutcomeWithin d h, tt)

  steps_within : (state : State) (acts : List PlainAct) → EachWithin state → BagWithin state.bag → StepsFrom (demands xs ticks) state acts → AllByRecursion ActWithin acts × EachWithin (after_from state acts)
  steps_within state [] h b s = (tt, h)
  steps_within state (act ∷ acts) h b s =
      let may = s.0 in
      let p = may.process in
      let began = h act.proc p may.stands in
      let outcome = (processes_stay_within xs none ok p.start began.0 ticks).1 p.replies began.1 in
      let own = act_within act.ticket act.proc act.site act.what p.start (demands xs ticks p.start p.replies).outcome state.bag outcome b may.demanded may.bag in
      let rest = steps_within (changed state act) acts (changed_within state act h own) (bag_within state.bag act.what b own) s.1 in ((own, rest.0), rest.1)

  first_within : EachWithin first
  first_within name p is = by (name == 0) is
    where
      by : (b : Bool) → (if b then Some (fresh Main) else None) ≡ Some p → ProcessWithin p
      by true e = let same : fresh Main ≡ p = cc in subst ProcessWithin same (tt, tt)
      by false e = absurd cc

pub histories_stay_within : HistoriesStayWithin
histories_stay_within xs none ok ticks acts l = steps_within xs none ok ticks first acts (first_within xs none ok ticks) empty_within l.steps
