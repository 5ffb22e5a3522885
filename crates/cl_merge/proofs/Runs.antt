-- A run of which all is kept is a good run.
use Rattle.std.proofs.Common.{◌≡◌, ◌⊎◌, inl, inr, ℕ, Bool, true, false, ◌||◌, ◌&&◌, List, length, map, Some, refl, sym, ap, subst, ◌∙◌, arith}
use Rattle.std.specs.Prelude.{◌==◌}
use Rattle.std.specs.List.{AllByRecursion}
use Rattle.std.proofs.lemmas.Bool.Decides.{Decides-eqb}
use Rattle.cl_value.specs.Plain.{PlainAct, PlainRequest, PlainStart, Main, Lives, PlainEnd, Ended, Trapped, NoThread, HistoryFull, NoMemory, Stopped, Waiting, PlainReport, PlainHistory, PlainRun}
use Rattle.cl_value.specs.Replay.{replay}
use Rattle.cl_value.specs.declared.value.Value.{Value}
use Rattle.cl_model.specs.Alone.{replies_in}
use Rattle.cl_model.specs.Bag.{Bag}
use Rattle.cl_model.specs.Demand.{Outcome, Wants, Finishes, Traps, Misfit}
use Rattle.cl_model.specs.Ends.{is_over, Waits, GoesOn, Stuck}
use Rattle.cl_model.specs.Good.{RunKind, IsUnfinished, IsEnded, IsEndedOrWaits, WithoutFailure, AllEnded, SomeWait, end_in, some_failure, EndsAgree}
use Rattle.cl_model.specs.Machine.{Process, after, BeganAt, demand_of}
use Rattle.cl_model.specs.Meaning.{Meaning, sites_of, acts_at, WantsAt}
use Rattle.cl_model.specs.Runs.{IsAtFull, EndIs, FullEnds, GoodReport, IsWithinLimit, GoodRun}
use Rattle.cl_merge.specs.Kept.{process_of, WantsOn, MetFull, WaitsThere, EndsSo, AllWell, StatusAgrees, IsKept}
use Rattle.cl_merge.specs.Members.{In}
use Rattle.cl_merge.specs.Processes.{Started, started_by, IsMade}
use Rattle.cl_merge.proofs.Members.{each_in, in_each, in_map, map_in}
use Rattle.cl_merge.proofs.Numbered.{ticket_from}
use Rattle.cl_merge.proofs.Handed.{all_acts, history_is, running}
use Rattle.cl_merge.proofs.Moments.{process_is as process_stands, is_told}
use Rattle.cl_value.specs.Acts.{is_site_of, acts_of}
use Rattle.cl_model.proofs.Answering.{waiting_agrees}
use Rattle.cl_model.specs.Counting.{Counts}
use Rattle.cl_value.specs.Answers.{waits}
use Rattle.cl_model.specs.Processes.{AsksFor, has_landed}
use Rattle.cl_merge.specs.Requests.{MayAsk}
use Rattle.cl_merge.specs.Events.{IsRunning}
use Rattle.cl_merge.proofs.Whole.{is_oldest, is_legal, bag_counts, waits_alike}

-- ---- one site
site_of_both : (ts : List (List Value)) (bag : Bag) (p : Process) (outcome : Outcome) (site other : ℕ) → WantsOn ts p outcome site → WantsAt bag p outcome other → site ≡ other
site_of_both ts bag p (Wants request) site other w v = sym w.0 ∙ v.0
site_of_both ts bag p (Finishes values) site other w v = by_start p.start w.1 v.1
  where
    by_start : (start : PlainStart) → BeganAt start site → BeganAt start other → site ≡ other
    by_start Main b c = absurd b
    by_start (Lives began live depth) b c = sym b ∙ c
site_of_both ts bag p (Traps t) site other w v = absurd w
site_of_both ts bag p Misfit site other w v = absurd w

module _ (meaning : Meaning) (kind : RunKind) (run : PlainRun) (kept : IsKept meaning kind run) where
  abbrev acts : List PlainAct
  acts = all_acts meaning kind run kept

  abbrev people : List Started
  people = map started_by run.reports

  runs : IsRunning meaning acts people
  runs = running meaning kind run kept

  abbrev outcome_of : PlainReport → Outcome
  outcome_of r = (demand_of meaning.demands (process_of acts r)).outcome

  -- the process of a report is one of the processes
  one_of : (r : PlainReport) → In r run.reports → In (started_by r) people
  one_of r k = map_in started_by r run.reports k

  main_start : (r : PlainReport) → r.name ≡ 0 → ((r.name ≡ 0) × (r.start ≡ Main)) ⊎ IsMade people acts (started_by r) → r.start ≡ Main
  main_start r z (inl h) = h.1
  main_start r z (inr m) = let e = m.4 in let t = ticket_from 1 acts m.1 kept.numbered m.3 in absurd (omega arith)

  pub process_is : (r : PlainReport) → In r run.reports → (after acts).process r.name ≡ Some (process_of acts r)
  process_is r k = process_stands meaning acts people runs (started_by r) (one_of r k)

  asks : (r : PlainReport) → In r run.reports → (request : PlainRequest) → outcome_of r ≡ Wants request → MayAsk meaning.demands people request
  asks r k request e = (started_by r, replies_in (acts_of r.name acts), one_of r k, subst (λ o. AsksFor r.start o request) (sym e) refl)

  -- ---- what waits, and what doesn't
  counted : Counts (after acts).bag (replay acts)
  counted = bag_counts meaning acts people kept.apart runs

  waits_here : (h : PlainHistory) → In h run.histories → (request : PlainRequest) → MayAsk meaning.demands people request → is_site_of (sites_of meaning h.set) request.site ≡ true → waits (replay acts) request.ask ≡ waits (replay h.acts) request.ask
  waits_here h k request may at = waits_alike meaning acts people kept.apart runs h.set request may at ∙ ap (λ xs. waits (replay xs) request.ask) (history_is meaning kind run kept h k)

  still_waits : (r : PlainReport) → In r run.reports → WaitsThere meaning run.histories (outcome_of r) → Waits (after acts).bag (outcome_of r)
  still_waits r k w =
      let alike = waits_here w.history w.is_one w.request (asks r k w.request w.wants) w.of_set in
      subst (Waits (after acts).bag) (sym w.wants) ((waiting_agrees (after acts).bag (replay acts) counted w.request.ask).0 (alike ∙ w.waits))

  wants_by : (r : PlainReport) → In r run.reports → (h : PlainHistory) → In h run.histories → (outcome : Outcome) → outcome_of r ≡ outcome → (site : ℕ) → is_site_of (sites_of meaning h.set) site ≡ true → WantsOn (replay h.acts) (process_of acts r) outcome site → WantsAt (after acts).bag (process_of acts r) outcome site
  wants_by r k h j (Wants request) e site at w =
      let alike = waits_here h j request (asks r k request e) (subst (λ s. is_site_of (sites_of meaning h.set) s ≡ true) (sym w.0) at) in
      (w.0, λ waiting. let one = (waiting_agrees (after acts).bag (replay acts) counted request.ask).1 waiting in let other : waits (replay acts) request.ask ≡ false = alike ∙ w.1 in cc)
  wants_by r k h j (Finishes values) e site at w = w
  wants_by r k h j (Traps t) e site at w = w
  wants_by r k h j Misfit e site at w = w

  -- ---- ends
  at_full : (r : PlainReport) → In r run.reports → (set : ℕ) → IsUnfinished r.name (process_of acts r) (outcome_of r) → MetFull meaning run.histories (process_of acts r) (outcome_of r) set → IsAtFull meaning acts r.name (process_of acts r) (outcome_of r) set
  at_full r k set unfinished m =
      record {
        unfinished = unfinished;
        full = ap (λ s. length (acts_at (sites_of meaning s) acts)) (sym m.number) ∙ (ap length (history_is meaning kind run kept m.history m.is_one) ∙ m.full);
        wants = record {
          site = m.site;
          wants = wants_by r k m.history m.is_one (outcome_of r) refl m.site (subst (λ s. is_site_of (sites_of meaning s) m.site ≡ true) (sym m.number) m.of_set) m.wants;
          of_set = m.of_set;
        };
      }

  end_is : (r : PlainReport) → In r run.reports → (end : PlainEnd) → EndsSo meaning kind run.histories r (process_of acts r) (outcome_of r) end → EndIs meaning kind acts r (process_of acts r) (outcome_of r) end
  end_is r k (Ended values) h = h
  end_is r k (Trapped t) h = h
  end_is r k NoThread h = h
  end_is r k (HistoryFull set) h = at_full r k set h.0 h.1
  end_is r k NoMemory h = tt
  end_is r k (Stopped by) h = h
  end_is r k Waiting h = h.0

  -- what is over wants nothing
  over_wants_nothing : (r : PlainReport) → In r run.reports → (values : List Value) (bag : Bag) (site : ℕ) → is_over r.name (process_of acts r) (Finishes values) ≡ true → WantsAt bag (process_of acts r) (Finishes values) site → ⊥
  over_wants_nothing r k values bag site over w = by_start (main_start r ((Decides-eqb r.name 0).0 (second (has_landed (acts_of r.name acts)) (r.name == 0) over w.0)) (kept.processes.starts (started_by r) (one_of r k))) w.1
    where
      second : (b c : Bool) → b || (c && true) ≡ true → b ≡ false → c ≡ true
      second true c e f = cc
      second false true e f = refl
      second false false e f = e

      by_start : r.start ≡ Main → BeganAt r.start site → ⊥
      by_start e b = subst (λ s. BeganAt s site) e b

  full_ends : (r : PlainReport) → In r run.reports → (end : PlainEnd) → EndsSo meaning kind run.histories r (process_of acts r) (outcome_of r) end → FullEnds meaning acts (process_of acts r) (outcome_of r) end
  full_ends r k (Ended values) h set full w = over_wants_nothing r k values (after acts).bag w.site (subst (λ o. is_over r.name (process_of acts r) o ≡ true) h.0 h.1) (subst (λ o. WantsAt (after acts).bag (process_of acts r) o w.site) h.0 w.wants)
  full_ends r k (Trapped t) h set full w = subst (λ o. WantsAt (after acts).bag (process_of acts r) o w.site) h w.wants
  full_ends r k NoThread h set full w = tt
  full_ends r k (HistoryFull other) h set full w =
      let m = h.1 in
      let same = site_of_both (replay m.history.acts) (after acts).bag (process_of acts r) (outcome_of r) m.site w.site m.wants w.wants in
      kept.disjoint other set w.site (subst (λ s. is_site_of (sites_of meaning other) s ≡ true) same m.of_set) w.of_set
  full_ends r k NoMemory h set full w = tt
  full_ends r k (Stopped by) h set full w = tt
  full_ends r k Waiting h set full w =
      let v = h.1 in
      let b = still_waits r k v in
      let u = subst (λ o. WantsAt (after acts).bag (process_of acts r) o w.site) v.wants w.wants in
      u.1 (subst (Waits (after acts).bag) v.wants b)

  pub good_report : (r : PlainReport) → In r run.reports → GoodReport meaning kind acts r
  good_report r k =
      let e = kept.ends r k in
      record {
        process = process_of acts r;
        stands = process_is r k;
        start = refl;
        acts_are = e.own;
        kids_are = e.kids;
        end_is = end_is r k r.end e.end;
        full_ends = full_ends r k r.end e.end;
        output_is = e.output;
      }

  -- ---- the whole
  is_ended : (end : PlainEnd) → IsEnded end → (values : List Value) × (end ≡ Ended values)
  is_ended (Ended values) h = (values, refl)
  is_ended (Trapped t) h = absurd h
  is_ended NoThread h = absurd h
  is_ended (HistoryFull set) h = absurd h
  is_ended NoMemory h = absurd h
  is_ended (Stopped by) h = absurd h
  is_ended Waiting h = absurd h

  ended_or_waits : (end : PlainEnd) → IsEndedOrWaits end → IsEnded end ⊎ (end ≡ Waiting)
  ended_or_waits (Ended values) h = inl tt
  ended_or_waits (Trapped t) h = absurd h
  ended_or_waits NoThread h = absurd h
  ended_or_waits (HistoryFull set) h = absurd h
  ended_or_waits NoMemory h = absurd h
  ended_or_waits (Stopped by) h = absurd h
  ended_or_waits Waiting h = inr refl

  -- who has ended is over
  ended_over : (r : PlainReport) → In r run.reports → IsEnded r.end → is_over r.name (process_of acts r) (outcome_of r) ≡ true
  ended_over r k h = let v = is_ended r.end h in (subst (EndsSo meaning kind run.histories r (process_of acts r) (outcome_of r)) v.1 (kept.ends r k).end).1

  -- who goes on has a report
  reported : (name : ℕ) (p : Process) → GoesOn meaning.demands (after acts) name p → (r : PlainReport) × In r run.reports × (is_over r.name (process_of acts r) (outcome_of r) ≡ false) × (process_of acts r ≡ p)
  reported name p g =
      let b = (is_told meaning acts people kept.apart runs).only name p g.stands in
      let o = in_map started_by b.0 run.reports b.1 in
      let named : o.0.name ≡ name = ap (λ (x : Started). x.name) o.2 ∙ b.2 in
      let e : Some (process_of acts o.0) ≡ Some p = sym (process_is o.0 o.1) ∙ (ap (after acts).process named ∙ g.stands) in
      let same : process_of acts o.0 ≡ p = cc in
      (o.0, o.1, subst (λ n. is_over n (process_of acts o.0) (outcome_of o.0) ≡ false) (sym named) (subst (λ q. is_over name q (demand_of meaning.demands q).outcome ≡ false) (sym same) g.not_over), same)

  none_goes_on : AllByRecursion (λ r. IsEnded (end_in r)) run.reports → Stuck meaning.demands acts → ⊥
  none_goes_on all stuck =
      let s = stuck.some in
      let r = reported s.0 s.1 s.2 in
      let over = ended_over r.0 r.1 (each_in (λ r. IsEnded (end_in r)) r.0 run.reports all r.1) in
      let goes = r.2 in
      cc

  waits_or_over : (r : PlainReport) → In r run.reports → is_over r.name (process_of acts r) (outcome_of r) ≡ false → IsEnded r.end ⊎ (r.end ≡ Waiting) → Waits (after acts).bag (outcome_of r)
  waits_or_over r k goes (inl e) = let over = ended_over r k e in cc
  waits_or_over r k goes (inr e) = still_waits r k (subst (EndsSo meaning kind run.histories r (process_of acts r) (outcome_of r)) e (kept.ends r k).end).1

  is_stuck : AllByRecursion (λ r. IsEndedOrWaits (end_in r)) run.reports → (r : PlainReport) → In r run.reports → r.end ≡ Waiting → Stuck meaning.demands acts
  is_stuck all r k e =
      record {
        each = λ name p g.
            let q = reported name p g in
            subst (λ x. Waits (after acts).bag (demand_of meaning.demands x).outcome) q.3
            (waits_or_over q.0 q.1 q.2 (ended_or_waits q.0.end (each_in (λ r. IsEndedOrWaits (end_in r)) q.0 run.reports all q.1)));
        some = (r.name, process_of acts r, record { stands = process_is r k; not_over = ((subst (EndsSo meaning kind run.histories r (process_of acts r) (outcome_of r)) e (kept.ends r k).end).0).not_over });
      }

  without_failure : AllWell kind run → WithoutFailure meaning.demands kind acts run
  without_failure (inl h) = AllEnded (λ can stuck. none_goes_on h.1 stuck) h.0 h.1
  without_failure (inr h) = SomeWait h.0 (is_stuck h.2 h.3 h.4 h.5) h.1 h.2

  ends_agree : (b : Bool) → StatusAgrees b kind run → EndsAgree b meaning.demands kind acts run
  ends_agree true h = h
  ends_agree false h = without_failure h

  pub good_run : GoodRun meaning kind run
  good_run =
      record {
        histories = kept.histories;
        within = in_each (IsWithinLimit meaning.limit) run.histories (λ h k. (kept.sets h k).few);
        legal = is_legal meaning acts people kept.apart runs;
        oldest = is_oldest meaning acts people kept.apart runs;
        names = kept.names;
        reports = in_each (GoodReport meaning kind acts) run.reports good_report;
        ends = ends_agree (some_failure run.reports) kept.status;
      }
