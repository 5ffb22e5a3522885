-- With more ticks a legal history is legal, and a good run that wanted no more of them is a good run.
use Rattle.std.proofs.Common.{◌≡◌, ◌∙◌, sym, subst, ap, List, Some}
use Rattle.std.specs.Prelude.{◌≢◌}
use Rattle.std.specs.List.{AllByRecursion}
use Rattle.cl_value.specs.declared.process.Trap.TheVariants.{StepLimit}
use Rattle.cl_value.specs.Plain.{PlainRequest, PlainStart, PlainAct, PlainWhat, DidOut, DidIn, DidRd, InpHit, InpMiss, RdpHit, RdpMiss, DidEval, DidLand, PlainEnd, Ended, Trapped, NoThread, HistoryFull, NoMemory, Stopped, Waiting, PlainReport, PlainRun}
use Rattle.cl_value.specs.Tickets.{by_ticket}
use Rattle.cl_ast.specs.declared.statement.Item.{Item}
use Rattle.cl_model.specs.Demand.{Outcome, Wants, Finishes, Traps, Misfit, Demands}
use Rattle.cl_model.specs.Machine.{Process, after, DemandAllows, Legal, demand_of}
use Rattle.cl_model.specs.Good.{RunKind, end_in}
use Rattle.cl_model.specs.Meaning.{Meaning}
use Rattle.cl_model.specs.Runs.{EndIs, GoodReport, GoodRun}
use Rattle.cl_model.specs.Agree.{where_demanded}
use Rattle.cl_model.proofs.Agree.{legal_where_allowed, good_where}
use Rattle.cl_meaning.specs.Process.{begun, process, demands}
use Rattle.cl_limits.specs.Ticks.{GoesFurther}
use Rattle.cl_limits.specs.Runs.{NoneRanOut, EndsOtherwise, RunFurther, RunWithMore}
use Rattle.cl_limits.proofs.Replies.{TakesReplies, take_replies, all_told}
use Rattle.cl_limits.proofs.Names.{IsAmong, is_named, has_report}
use Rattle.cl_limits.proofs.Laws.{only_ticks}

module _ (few more : Demands) where
  -- ---- histories

  module _ (goes : (start : PlainStart) → GoesFurther (few start) (more start)) where
    outcome_is : (p : Process) (outcome : Outcome) → (demand_of few p).outcome ≡ outcome → outcome ≢ Traps StepLimit → outcome ≢ Misfit → (demand_of more p).outcome ≡ outcome
    outcome_is p outcome is ran told = ap (λ d. d.outcome) (sym ((goes p.start).same p.replies (λ e. ran (sym is ∙ e)) (λ e. told (sym is ∙ e)))) ∙ is

    wants : (p : Process) (request : PlainRequest) → (demand_of few p).outcome ≡ Wants request → (demand_of more p).outcome ≡ Wants request
    wants p request is = outcome_is p (Wants request) is (λ e. absurd cc) (λ e. absurd cc)

    demanded : (p : Process) (act : PlainAct) (what : PlainWhat) → DemandAllows what act p.start (demand_of few p).outcome → DemandAllows what act p.start (demand_of more p).outcome
    demanded p act (DidOut t) d = wants p _ d
    demanded p act (DidIn m t) d = wants p _ d
    demanded p act (DidRd m t) d = wants p _ d
    demanded p act (InpHit m t) d = wants p _ d
    demanded p act (InpMiss m) d = wants p _ d
    demanded p act (RdpHit m t) d = wants p _ d
    demanded p act (RdpMiss m) d = wants p _ d
    demanded p act (DidEval live) d = wants p _ d
    demanded p act (DidLand t) d = (d.0, outcome_is p (Finishes t) d.1 (λ e. absurd cc) (λ e. absurd cc), d.2)

    legal : (acts : List PlainAct) → Legal few acts → Legal more acts
    legal = legal_where_allowed few more (λ done act p l k stands. demanded p act act.what)

  -- ---- what reports tell

  not_trapped : (meaning : Meaning) (kind : RunKind) (acts : List PlainAct) (r : PlainReport) (p : Process) (outcome : Outcome) (end : PlainEnd) → EndIs meaning kind acts r p outcome end → EndsOtherwise end → outcome ≢ Traps StepLimit
  not_trapped meaning kind acts r p outcome (Ended values) h other e = let both : Finishes values ≡ Traps StepLimit = sym h.0 ∙ e in absurd cc
  not_trapped meaning kind acts r p outcome (Trapped t) h other e = let both : Traps t ≡ Traps StepLimit = sym h ∙ e in other cc
  not_trapped meaning kind acts r p outcome NoThread h other e = absurd other
  not_trapped meaning kind acts r p outcome (HistoryFull set) h other e = h.unfinished.no_trap StepLimit e
  not_trapped meaning kind acts r p outcome NoMemory h other e = absurd other
  not_trapped meaning kind acts r p outcome (Stopped by) h other e = h.no_trap StepLimit e
  not_trapped meaning kind acts r p outcome Waiting h other e = h.no_trap StepLimit e

  by_reports : (meaning : Meaning) (kind : RunKind) (run : PlainRun) → GoodRun (where_demanded few meaning) kind run → AllByRecursion (λ r. EndsOtherwise (end_in r)) run.reports → NoneRanOut few (by_ticket run.histories)
  by_reports meaning kind run h others name p stands =
      let acts = by_ticket run.histories in
      let found = has_report (GoodReport (where_demanded few meaning) kind acts) (λ r. EndsOtherwise (end_in r)) run.reports name (subst (IsAmong name) (sym h.names) (is_named acts name p stands)) h.reports others in
      let both : Some found.2.process ≡ Some p = sym found.2.stands ∙ (ap (after acts).process found.1 ∙ stands) in
      let same : found.2.process ≡ p = cc in
      subst (λ (q : Process). (demand_of few q).outcome ≢ Traps StepLimit) same (not_trapped (where_demanded few meaning) kind acts found.0 found.2.process _ found.0.end found.2.end_is found.3)

  pub further : ((start : PlainStart) → GoesFurther (few start) (more start)) → ((start : PlainStart) → TakesReplies (few start)) → RunFurther few more
  further goes told = record { legal = legal goes; good = good; by_reports = by_reports }
    where
      good : (meaning : Meaning) (kind : RunKind) (run : PlainRun) → GoodRun (where_demanded few meaning) kind run → NoneRanOut few (by_ticket run.histories) → GoodRun (where_demanded more meaning) kind run
      good meaning kind run h none =
          let acts = by_ticket run.histories in
          good_where few more meaning kind run (λ name p e. (goes p.start).same p.replies (none name p e) (all_told few told acts h.legal name p e)) (legal goes acts h.legal) h

pub run_with_more : (xs : List Item) → RunWithMore xs
run_with_more xs few more le = further (demands xs few) (demands xs more) (λ start. only_ticks xs few more start le) (λ start. take_replies (process xs start (begun xs few)))
