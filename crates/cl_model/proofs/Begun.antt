-- In each legal history, each act answers a right request and each process began right, where processes that began right ask for what is right and
-- make what begins right: for any two properties that a meaning keeps so.
use Rattle.std.proofs.Common.{◌≡◌, ◌∙◌, ap, sym, subst, refl, ℕ, ◌+◌, Bool, true, false, ◌==◌, ◌&&◌, List, [], ◌∷◌, Option, Some, None}
use Rattle.std.specs.Prelude.{option_map, if◌then◌else◌}
use Rattle.std.specs.List.{AllByRecursion}
use Rattle.cl_value.specs.declared.value.Value.{Value}
use Rattle.cl_value.specs.Plain.{PlainPart, Eval, Land, PlainRequest, PlainReply, PlainStart, Main, Lives, PlainWhat, DidOut, DidIn, DidRd, InpHit, InpMiss, RdpHit, RdpMiss, DidEval, DidLand, PlainAct}
use Rattle.cl_value.specs.Acts.{is_eval, request_of}
use Rattle.cl_model.specs.Demand.{Demands, Wants, Finishes}
use Rattle.cl_model.specs.Machine.{Process, State, fresh, first, told, depth_of, made_by, made_in, changed, BeganAt, DemandAllows, MayCome, after_from, StepsFrom, Legal, after}

module _
    (demands : Demands) (Began : PlainStart → Type 0) (Right : PlainRequest → Type 0) (main : Began Main)
    (wants : (start : PlainStart) (replies : List PlainReply) (q : PlainRequest) → Began start → (demands start replies).outcome ≡ Wants q → Right q)
    (lands : (start : PlainStart) (replies : List PlainReply) (values : List Value) (site : ℕ) → Began start → (demands start replies).outcome ≡ Finishes values → BeganAt start site → Right (record { site = site; ask = Land values }))
    (makes : (start : PlainStart) (replies : List PlainReply) (site : ℕ) (live : List PlainPart) → Began start → (demands start replies).outcome ≡ Wants (record { site = site; ask = Eval live }) → Began (Lives site live (depth_of start + 1)))
  where
    -- ---- one act

    -- by what was done
    act_right : (ticket proc site : ℕ) (what : PlainWhat) (start : PlainStart) (replies : List PlainReply) → Began start →
        DemandAllows what (record { ticket = ticket; proc = proc; site = site; what = what }) start (demands start replies).outcome → Right (request_of (record { ticket = ticket; proc = proc; site = site; what = what }))
    act_right ticket proc site (DidLand t) start replies h d = lands start replies t site h d.1 d.2
    act_right ticket proc site (DidOut t) start replies h d = wants start replies _ h d
    act_right ticket proc site (DidIn m t) start replies h d = wants start replies _ h d
    act_right ticket proc site (DidRd m t) start replies h d = wants start replies _ h d
    act_right ticket proc site (InpHit m t) start replies h d = wants start replies _ h d
    act_right ticket proc site (InpMiss m) start replies h d = wants start replies _ h d
    act_right ticket proc site (RdpHit m t) start replies h d = wants start replies _ h d
    act_right ticket proc site (RdpMiss m) start replies h d = wants start replies _ h d
    act_right ticket proc site (DidEval live) start replies h d = wants start replies _ h d

    -- ---- the processes of a state

    abbrev AllBegan : State → Type 0
    AllBegan state = (name : ℕ) (p : Process) → state.process name ≡ Some p → Began p.start

    told_began : (o : Option Process) (what : PlainWhat) (p : Process) → ((q : Process) → o ≡ Some q → Began q.start) → option_map (told what) o ≡ Some p → Began p.start
    told_began None what p h is = absurd cc
    told_began (Some q) what p h is = let same : told what q ≡ p = cc in subst (λ (r : Process). Began r.start) same (h q refl)

    -- a process that an `eval` makes
    made_began : (ticket proc site : ℕ) (what : PlainWhat) (maker : Process) (p : Process) → Began maker.start →
        DemandAllows what (record { ticket = ticket; proc = proc; site = site; what = what }) maker.start (demands maker.start maker.replies).outcome → made_by site what maker ≡ Some p → Began p.start
    made_began ticket proc site (DidEval live) maker p h d is =
        let same : fresh (Lives site live (depth_of maker.start + 1)) ≡ p = cc in
        subst (λ (r : Process). Began r.start) same (makes maker.start maker.replies site live h d)
    made_began ticket proc site (DidLand t) maker p h d is = absurd cc
    made_began ticket proc site (DidOut t) maker p h d is = absurd cc
    made_began ticket proc site (DidIn m t) maker p h d is = absurd cc
    made_began ticket proc site (DidRd m t) maker p h d is = absurd cc
    made_began ticket proc site (InpHit m t) maker p h d is = absurd cc
    made_began ticket proc site (InpMiss m) maker p h d is = absurd cc
    made_began ticket proc site (RdpHit m t) maker p h d is = absurd cc
    made_began ticket proc site (RdpMiss m) maker p h d is = absurd cc

    changed_began : (state : State) (act : PlainAct) → AllBegan state → MayCome demands state act → AllBegan (changed state act)
    changed_began state act h may name p is = by (name == act.proc) (is_eval act.what && name == act.ticket) is
      where
        made : (o : Option Process) → state.process act.proc ≡ o → elim o [ None ↦ None | Some maker ↦ made_by act.site act.what maker ] ≡ Some p → Began p.start
        made None e m = absurd cc
        made (Some maker) e m =
            let same : may.process ≡ maker = let both : Some may.process ≡ Some maker = sym may.stands ∙ e in cc in
            made_began act.ticket act.proc act.site act.what may.process p (h act.proc may.process may.stands) may.demanded (ap (made_by act.site act.what) same ∙ m)

        by : (b c : Bool) → (if b then option_map (told act.what) (state.process name) else (if c then made_in state act else state.process name)) ≡ Some p → Began p.start
        by true c e = told_began (state.process name) act.what p (λ q is. h name q is) e
        by false true e = made (state.process act.proc) refl e
        by false false e = h name p e

    steps_right : (state : State) (acts : List PlainAct) → AllBegan state → StepsFrom demands state acts → AllByRecursion (λ act. Right (request_of act)) acts × AllBegan (after_from state acts)
    steps_right state [] h s = (tt, h)
    steps_right state (act ∷ acts) h s =
        let may = s.0 in
        let own = act_right act.ticket act.proc act.site act.what may.process.start may.process.replies (h act.proc may.process may.stands) may.demanded in
        let rest = steps_right (changed state act) acts (changed_began state act h may) s.1 in ((own, rest.0), rest.1)

    first_began : AllBegan first
    first_began name p is = by (name == 0) is
      where
        by : (b : Bool) → (if b then Some (fresh Main) else None) ≡ Some p → Began p.start
        by true e = let same : fresh Main ≡ p = cc in subst (λ (r : Process). Began r.start) same main
        by false e = absurd cc

    -- each act of a legal history is right, and each process that stands behind it began right
    pub history_right : (acts : List PlainAct) → Legal demands acts → AllByRecursion (λ act. Right (request_of act)) acts × ((name : ℕ) (p : Process) → (after acts).process name ≡ Some p → Began p.start)
    history_right acts l = steps_right first acts first_began l.steps
