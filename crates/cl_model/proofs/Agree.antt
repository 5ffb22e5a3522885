-- What is legal of a meaning is legal of one that agrees with it, and so is a good run.
use Rattle.std.proofs.Common.{◌≡◌, sym, subst, ap, ◌∙◌, ℕ, ◌+◌, Bool, true, false, List, [], ◌∷◌, ◌++◌, length, Some, arith}
use Rattle.std.specs.List.{AllByRecursion}
use Rattle.cl_value.specs.Plain.{PlainAct, PlainEnd, Ended, Trapped, NoThread, HistoryFull, NoMemory, Stopped, Waiting, PlainReport, PlainRun}
use Rattle.cl_value.specs.Tickets.{NumberedFrom, by_ticket}
use Rattle.cl_model.specs.Demand.{Demand, Demands, Outcome}
use Rattle.cl_model.specs.Ends.{Stuck, Waits, is_over}
use Rattle.cl_model.specs.Good.{RunKind, some_failure, WithoutFailure, AllEnded, SomeWait, EndsAgree, OutputAgrees}
use Rattle.cl_model.specs.Machine.{Process, State, first, after, DemandAllows, MayCome, StepsFrom, Legal, demand_of}
use Rattle.cl_model.specs.Meaning.{Meaning}
use Rattle.cl_model.specs.Runs.{EndIs, FullEnds, GoodReport, GoodRun}
use Rattle.cl_model.specs.Agree.{AgreeAfter, AgreeAlong, where_demanded, AgreeingRunAlike, GoodWhereAgreed}
use Rattle.cl_model.proofs.Histories.{after_push, legal_push, legal_nil}

-- ---- histories

longer : (xs : List PlainAct) (x : PlainAct) → length xs + 1 + 1 ≡ length (xs ++ x ∷ []) + 1
longer [] x = omega arith
longer (y ∷ ys) x = let more = longer ys x in omega arith

-- where an act that the one allows after a history that is legal for both is allowed by the other
module _ (d e : Demands) (allowed : (done : List PlainAct) (act : PlainAct) (p : Process) → Legal d done → Legal e done → (after done).process act.proc ≡ Some p →
    DemandAllows act.what act p.start (demand_of d p).outcome → DemandAllows act.what act p.start (demand_of e p).outcome) where
  may_come : (done : List PlainAct) (act : PlainAct) → Legal d done → Legal e done → MayCome d (after done) act → MayCome e (after done) act
  may_come done act l k m = record { process = m.process; stands = m.stands; not_landed = m.not_landed; demanded = allowed done act m.process l k m.stands m.demanded; bag = m.bag; name = m.name }

  steps : (n : ℕ) (done acts : List PlainAct) → n ≡ length done + 1 → Legal d done → Legal e done → NumberedFrom n acts → StepsFrom d (after done) acts → StepsFrom e (after done) acts
  steps n done [] is l k t h = tt
  steps n done (act ∷ acts) is l k t h =
      let m = may_come done act l k h.0 in (
        m,
        subst (λ (s : State). StepsFrom e s acts) (after_push first done act)
            (steps (n + 1) (done ++ act ∷ []) acts (ap (λ k. k + 1) is ∙ longer done act) (legal_push d done act l (t.0 ∙ is) h.0) (legal_push e done act k (t.0 ∙ is) m) t.1
            (subst (λ (s : State). StepsFrom d s acts) (sym (after_push first done act)) h.1)),
      )

  -- each history that is legal for the one is legal for the other
  pub legal_where_allowed : (acts : List PlainAct) → Legal d acts → Legal e acts
  legal_where_allowed acts h = record { numbered = h.numbered; steps = steps 1 [] acts (omega arith) (legal_nil d) (legal_nil e) h.numbered h.steps }

module _ (d e : Demands) (agree : AgreeAlong d e) where
  pub legal_along : (acts : List PlainAct) → Legal d acts → Legal e acts
  legal_along = legal_where_allowed d e (λ done act p l k stands. subst (λ (x : Demand). DemandAllows act.what act p.start x.outcome) (agree done k act.proc p stands))

  pub legal_back : (acts : List PlainAct) → Legal e acts → Legal d acts
  legal_back = legal_where_allowed e d (λ done act p k l stands. subst (λ (x : Demand). DemandAllows act.what act p.start x.outcome) (sym (agree done k act.proc p stands)))

-- ---- runs

stuck : (d e : Demands) (acts : List PlainAct) → AgreeAfter d e acts → Stuck d acts → Stuck e acts
stuck d e acts same h = record {
  each = λ name p g. subst (λ (x : Demand). Waits (after acts).bag x.outcome) (same name p g.stands) (h.each name p (record { stands = g.stands; not_over = subst (λ (x : Demand). is_over name p x.outcome ≡ false) (sym (same name p g.stands)) g.not_over }));
  some = (h.some.0, h.some.1, record { stands = h.some.2.stands; not_over = subst (λ (x : Demand). is_over h.some.0 h.some.1 x.outcome ≡ false) (same h.some.0 h.some.1 h.some.2.stands) h.some.2.not_over });
}

module _ (d e : Demands) (meaning : Meaning) (kind : RunKind) where
  abbrev with_one : Meaning
  with_one = where_demanded d meaning

  abbrev with_other : Meaning
  with_other = where_demanded e meaning

  module _ (acts : List PlainAct) (same : AgreeAfter d e acts) where
    full_ends : (p : Process) (outcome : Outcome) (end : PlainEnd) → FullEnds with_one acts p outcome end → FullEnds with_other acts p outcome end
    full_ends p outcome end h set full w = h set full (record { site = w.site; wants = w.wants; of_set = w.of_set })

    end_is : (r : PlainReport) (p : Process) (outcome : Outcome) (end : PlainEnd) → EndIs with_one kind acts r p outcome end → EndIs with_other kind acts r p outcome end
    end_is r p outcome (Ended values) h = h
    end_is r p outcome (Trapped t) h = h
    end_is r p outcome NoThread h = h
    end_is r p outcome (HistoryFull set) h = record { unfinished = h.unfinished; full = h.full; wants = record { site = h.wants.site; wants = h.wants.wants; of_set = h.wants.of_set } }
    end_is r p outcome NoMemory h = h
    end_is r p outcome (Stopped by) h = h
    end_is r p outcome Waiting h = h

    report : (r : PlainReport) → GoodReport with_one kind acts r → GoodReport with_other kind acts r
    report r h =
        let is = same r.name h.process h.stands in
        record {
          process = h.process;
          stands = h.stands;
          start = h.start;
          acts_are = h.acts_are;
          kids_are = h.kids_are;
          end_is = subst (λ (x : Demand). EndIs with_other kind acts r h.process x.outcome r.end) is (end_is r h.process _ r.end h.end_is);
          full_ends = subst (λ (x : Demand). FullEnds with_other acts h.process x.outcome r.end) is (full_ends h.process _ r.end h.full_ends);
          output_is = subst (λ (x : Demand). OutputAgrees r x.output r.end) is h.output_is;
        }

    reports : (rs : List PlainReport) → AllByRecursion (GoodReport with_one kind acts) rs → AllByRecursion (GoodReport with_other kind acts) rs
    reports [] h = tt
    reports (r ∷ rs) h = (report r h.0, reports rs h.1)

    without_failure : (run : PlainRun) → WithoutFailure d kind acts run → WithoutFailure e kind acts run
    without_failure run (AllEnded not_stuck status ended) = AllEnded (λ can h. not_stuck can (stuck e d acts (λ name p stands. sym (same name p stands)) h)) status ended
    without_failure run (SomeWait can h status ended) = SomeWait can (stuck d e acts same h) status ended

    ends : (failed : Bool) (run : PlainRun) → EndsAgree failed d kind acts run → EndsAgree failed e kind acts run
    ends true run h = h
    ends false run h = without_failure run h

  -- a run whose history is legal for the other, where both agree after it
  pub good_where : (run : PlainRun) → AgreeAfter d e (by_ticket run.histories) → Legal e (by_ticket run.histories) → GoodRun with_one kind run → GoodRun with_other kind run
  good_where run same l h = record {
    histories = h.histories;
    within = h.within;
    legal = l;
    oldest = h.oldest;
    names = h.names;
    reports = reports (by_ticket run.histories) same run.reports h.reports;
    ends = ends (by_ticket run.histories) same (some_failure run.reports) run h.ends;
  }

module _ (d e : Demands) (agree : AgreeAlong d e) (meaning : Meaning) (kind : RunKind) (run : PlainRun) where
  pub good_along : GoodRun (where_demanded d meaning) kind run → GoodRun (where_demanded e meaning) kind run
  good_along h =
      let l = legal_along d e agree (by_ticket run.histories) h.legal in
      good_where d e meaning kind run (agree (by_ticket run.histories) l) l h

  pub good_back : GoodRun (where_demanded e meaning) kind run → GoodRun (where_demanded d meaning) kind run
  good_back h = good_where e d meaning kind run (λ name p stands. sym (agree (by_ticket run.histories) h.legal name p stands)) (legal_back d e agree (by_ticket run.histories) h.legal) h

pub good_where_agreed : GoodWhereAgreed
good_where_agreed d e meaning kind run same l h = good_where d e meaning kind run same l h

pub agreeing_run_alike : AgreeingRunAlike
agreeing_run_alike d e agree = record { legal = legal_along d e agree; legal_back = legal_back d e agree; good = good_along d e agree; good_back = good_back d e agree }
