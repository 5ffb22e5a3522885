-- The report of a run of one process is good.
use Rattle.std.proofs.Common.{◌≡◌, ◌≢◌, ℕ, zero, suc, ◌+◌, ◌<◌, ◌≤◌, Bool, true, false, List, [], ◌∷◌, length, Some, None, refl, sym, ap, subst, ◌∙◌, arith, inl, zero-add, get_or}
use Rattle.std.specs.Prelude.{Contains, ◌==◌}
use Rattle.std.specs.List.{AllByRecursion, range_with_len}
use Rattle.std.proofs.lemmas.Bool.{eq-eqb}
use Rattle.std.proofs.lemmas.List.FromFn.{length-range_with_len, get_or-range_with_len}
use Rattle.cl_value.specs.Acts.{names_made, is_site_of}
use Rattle.cl_value.specs.Plain.{Main, PlainRequest, PlainAct, PlainAsk, Out, In, Rd, Inp, Rdp, Eval, Land, PlainEnd, Ended, Trapped, NoThread, HistoryFull, NoMemory, Stopped, Waiting}
use Rattle.cl_value.specs.Replay.{Oldest}
use Rattle.cl_value.specs.Tickets.{NumberedFrom, by_ticket}
use Rattle.cl_value.specs.declared.value.Value.{Value}
use Rattle.cl_model.specs.Alone.{replies_in, IsOwn}
use Rattle.cl_model.specs.Bag.{Bag}
use Rattle.cl_model.specs.Demand.{Demands, Demand, Outcome, Wants, Finishes, Traps}
use Rattle.cl_model.specs.Ends.{Stuck, GoesOn, is_over, Waits, AskWaits}
use Rattle.cl_model.specs.Good.{Turns, OutputAgrees, HistoriesAre, AllEnded, SomeWait, WithFailure, EndsAgree, some_failure, is_failure, status_of, IsHaltedBy}
use Rattle.cl_model.specs.Machine.{Legal, Process, after, demand_of}
use Rattle.cl_model.specs.Meaning.{Meaning, acts_at, WantsAt}
use Rattle.cl_model.specs.Runs.{IsAtFull, EndIs, FullEnds, GoodReport, IsWithinLimit, GoodRun}
use Rattle.cl_model.proofs.Alone.{main_after, alone, acts_of_own, names_of_own}
use Rattle.cl_model.proofs.Bags.{counts_at_first, counts_from, holds_found}
use Rattle.cl_model.proofs.Answering.{waits_on_bag}
use Rattle.cl_model.specs.Counting.{Counts}
use Rattle.cl_model.proofs.Histories.{by_ticket_one}
use Rattle.cl_model.proofs.Matches.{found_matches}
use Rattle.cl_alone.specs.Leaving.{Leaves}
use Rattle.cl_alone.specs.Moment.{Moment, IsHistory}
use Rattle.cl_alone.specs.Pauses.{GoesOn as Goes, IsFullAt}
use Rattle.cl_alone.specs.Reports.{status_at, one_history, report_of, run_of}
use Rattle.cl_alone.specs.Sets.{one_set}
use Rattle.cl_alone.proofs.Demanded.{legal}

-- ---- sites of the one set

-- a number of a range is one of its sites
site_in_range : (a n k : ℕ) → a ≤ k → k < a + n → is_site_of (range_with_len a n) k ≡ true
site_in_range a zero k low high = absurd (omega arith)
site_in_range a (suc n) k low high = by_test (a == k) refl (λ next. site_in_range (a + 1) n k next (omega arith))
  where
    by_test : (t : Bool) → (a == k) ≡ t → (a + 1 ≤ k → is_site_of (range_with_len (a + 1) n) k ≡ true) → is_site_of (range_with_len a (suc n)) k ≡ true
    by_test true e later = rw e refl
    by_test false e later =
        let differs : a ≢ k = λ same. let t = eq-eqb a k same in cc in
        rw e (later (omega arith))

-- all acts are at sites of the one set
acts_at_all : (n : ℕ) (acts : List PlainAct) → AllByRecursion (IsOwn n) acts → acts_at (range_with_len 0 n) acts ≡ acts
acts_at_all n [] own = refl
acts_at_all n (act ∷ acts) own = rw (site_in_range 0 n act.site (omega arith) (omega (arith, own.0.site))) (ap (λ rest. act ∷ rest) (acts_at_all n acts own.1))

in_range : (n k : ℕ) → k < n → Contains (range_with_len 0 n) k
in_range n k h = (k, omega (arith, length-range_with_len 0 n), get_or-range_with_len 0 n k k h ∙ zero-add k)

sites_are : (n : ℕ) (acts : List PlainAct) → AllByRecursion (IsOwn n) acts → AllByRecursion (λ (act : PlainAct). Contains (range_with_len 0 n) act.site) acts
sites_are n [] own = tt
sites_are n (act ∷ acts) own = (in_range n act.site own.0.site, sites_are n acts own.1)

-- without operations there are no acts
no_acts : (acts : List PlainAct) → AllByRecursion (IsOwn 0) acts → acts ≡ []
no_acts [] own = refl
no_acts (act ∷ acts) own = absurd (omega (arith, own.0.site))

histories_are : (n : ℕ) (acts : List PlainAct) → AllByRecursion (IsOwn n) acts → HistoriesAre 0 (one_set n) (one_history n acts)
histories_are zero acts own = tt
histories_are (suc n) acts own = (refl, sites_are (suc n) acts own, tt)

are_within : (n limit : ℕ) (acts : List PlainAct) → length acts ≤ limit → AllByRecursion (IsWithinLimit limit) (one_history n acts)
are_within zero limit acts few = tt
are_within (suc n) limit acts few = (few, tt)

by_ticket_are : (n : ℕ) (acts : List PlainAct) → NumberedFrom 1 acts → AllByRecursion (IsOwn n) acts → by_ticket (one_history n acts) ≡ acts
by_ticket_are zero acts numbered own = sym (no_acts acts own)
by_ticket_are (suc n) acts numbered own = by_ticket_one (record { set = 0; acts = acts }) numbered

-- a site is of no set but the first
first_set : (n set site : ℕ) → is_site_of (get_or (one_set n) set []) site ≡ true → 0 ≡ set
first_set zero set site h = absurd cc
first_set (suc n) zero site h = refl
first_set (suc n) (suc set) site h = absurd cc

-- ---- what waits, and what doesn't

never_waits : (bag : Bag) (ts : List (List Value)) (ask : PlainAsk) → Counts bag ts → Goes ts ask → AskWaits bag ask → ⊥
never_waits bag ts (In m) h g w = omega (arith, w g.0 (found_matches ts m g.0 g.1), holds_found bag ts m g.0 h g.1)
never_waits bag ts (Rd m) h g w = omega (arith, w g.0 (found_matches ts m g.0 g.1), holds_found bag ts m g.0 h g.1)
never_waits bag ts (Out t) h g w = w
never_waits bag ts (Inp m) h g w = w
never_waits bag ts (Rdp m) h g w = w
never_waits bag ts (Eval live) h g w = w
never_waits bag ts (Land t) h g w = w

-- ---- a run that leaves off so

-- what a run means in which so many sites are one set
abbrev pub meant : Demands → ℕ → ℕ → Meaning
meant demands sites limit = record { demands = demands; sets = one_set sites; limit = limit }

module _ (demands : Demands) (m : Moment) (output : List ℕ) (outcome : Outcome) (h : IsHistory m) (now : demands Main (replies_in m.acts) ≡ record { output = output; outcome = outcome }) where
  counts : Counts (after m.acts).bag m.tuples
  counts = subst (λ ts. Counts (after m.acts).bag ts) (sym h.tuples) (counts_from _ [] m.acts h.oldest counts_at_first)

  good_report : (end : PlainEnd) → EndIs (meant demands m.sites m.limit) Turns m.acts (report_of m.acts output end) (main_after (replies_in m.acts)) outcome end → FullEnds (meant demands m.sites m.limit) m.acts (main_after (replies_in m.acts)) outcome end → OutputAgrees (report_of m.acts output end) output end → GoodReport (meant demands m.sites m.limit) Turns m.acts (report_of m.acts output end)
  good_report end agrees full says =
      record {
        process = main_after (replies_in m.acts);
        stands = (alone m.sites m.acts h.own).main;
        start = refl;
        acts_are = sym (acts_of_own m.sites m.acts h.own);
        kids_are = sym (names_of_own m.sites m.acts h.own);
        end_is = subst (λ o. EndIs (meant demands m.sites m.limit) Turns m.acts (report_of m.acts output end) (main_after (replies_in m.acts)) o end) (sym (ap (λ (d : Demand). d.outcome) now)) agrees;
        full_ends = subst (λ o. FullEnds (meant demands m.sites m.limit) m.acts (main_after (replies_in m.acts)) o end) (sym (ap (λ (d : Demand). d.outcome) now)) full;
        output_is = subst (λ o. OutputAgrees (report_of m.acts output end) o end) (sym (ap (λ (d : Demand). d.output) now)) says;
      }

  good_run : (end : PlainEnd) → Legal demands m.acts → GoodReport (meant demands m.sites m.limit) Turns m.acts (report_of m.acts output end) → EndsAgree (some_failure (report_of m.acts output end ∷ [])) demands Turns m.acts (run_of m.sites m.acts output end) → GoodRun (meant demands m.sites m.limit) Turns (run_of m.sites m.acts output end)
  good_run end l report ends =
      let order = by_ticket_are m.sites m.acts h.numbered h.own in
      record {
        histories = histories_are m.sites m.acts h.own;
        within = are_within m.sites m.limit m.acts h.few;
        legal = subst (λ acts. Legal demands acts) (sym order) l;
        oldest = subst Oldest (sym order) h.oldest;
        names = sym (ap (λ acts. 0 ∷ names_made acts) order ∙ ap (λ names. 0 ∷ names) (names_of_own m.sites m.acts h.own));
        reports = (subst (λ acts. GoodReport (meant demands m.sites m.limit) Turns acts (report_of m.acts output end)) (sym order) report, tt);
        ends = subst (λ acts. EndsAgree (some_failure (report_of m.acts output end ∷ [])) demands Turns acts (run_of m.sites m.acts output end)) (sym order) ends;
      }

  -- the process that stands under the name 0
  main_is : (p : Process) → GoesOn demands (after m.acts) 0 p → p ≡ main_after (replies_in m.acts)
  main_is p g =
      let one = alone m.sites m.acts h.own in
      let same : Some (main_after (replies_in m.acts)) ≡ Some p = sym one.main ∙ g.stands in
      cc

  -- no process stands under another name
  none_else : (n : ℕ) (p : Process) → GoesOn demands (after m.acts) (suc n) p → ⊥
  none_else n p g =
      let one = alone m.sites m.acts h.own in
      let none : (after m.acts).process (suc n) ≡ None = one.others (suc n) (λ e. absurd (omega (arith, e))) in
      let some = g.stands in
      cc

  -- process 0 is over exactly as its outcome says
  over_now : (b : Bool) → is_over 0 (main_after (replies_in m.acts)) outcome ≡ b → is_over 0 (main_after (replies_in m.acts)) (demand_of demands (main_after (replies_in m.acts))).outcome ≡ b
  over_now b e = ap (λ (d : Demand). is_over 0 (main_after (replies_in m.acts)) d.outcome) now ∙ e

  -- a finished process isn't stuck
  not_stuck : is_over 0 (main_after (replies_in m.acts)) outcome ≡ true → Stuck demands m.acts → ⊥
  not_stuck finished stuck = over stuck.some.0 stuck.some.1 stuck.some.2
    where
      over : (name : ℕ) (p : Process) → GoesOn demands (after m.acts) name p → ⊥
      over zero p g =
          let same = main_is p g in
          let here = subst (λ (q : Process). is_over 0 q (demand_of demands q).outcome ≡ false) same g.not_over in
          let there = over_now true finished in
          cc
      over (suc n) p g = none_else n p g

  -- a process that waits is
  is_stuck : is_over 0 (main_after (replies_in m.acts)) outcome ≡ false → Waits (after m.acts).bag outcome → Stuck demands m.acts
  is_stuck unfinished waiting =
      let one = alone m.sites m.acts h.own in
      record {
        each = waits;
        some = (0, main_after (replies_in m.acts), record { stands = one.main; not_over = over_now false unfinished });
      }
    where
      waits : (name : ℕ) (p : Process) → GoesOn demands (after m.acts) name p → Waits (after m.acts).bag (demand_of demands p).outcome
      waits zero p g =
          let same = main_is p g in
          let here : Waits (after m.acts).bag (demand_of demands (main_after (replies_in m.acts))).outcome = subst (λ (d : Demand). Waits (after m.acts).bag d.outcome) (sym now) waiting in
          subst (λ (q : Process). Waits (after m.acts).bag (demand_of demands q).outcome) (sym same) here
      waits (suc n) p g = absurd (none_else n p g)

  -- a process that wants nothing needn't have found its set full
  wants_nothing : (end : PlainEnd) → ((site : ℕ) → WantsAt (after m.acts).bag (main_after (replies_in m.acts)) outcome site → ⊥) → FullEnds (meant demands m.sites m.limit) m.acts (main_after (replies_in m.acts)) outcome end
  wants_nothing end none = λ set full w. absurd (none w.site w.wants)

  failure : (end : PlainEnd) → is_failure end ≡ true → status_at end ≡ status_of end → IsHaltedBy 0 end → WithFailure (run_of m.sites m.acts output end)
  failure end failed status halted = record { halting = report_of m.acts output end; reported = (0, omega arith, refl); failed = failed; status = status; others = (halted, tt) }

-- where a process is at a full history
at_full : (demands : Demands) (m : Moment) (outcome : Outcome) (request : PlainRequest) → IsHistory m → Counts (after m.acts).bag m.tuples → outcome ≡ Wants request → IsFullAt m request → IsAtFull (meant demands m.sites m.limit) m.acts 0 (main_after (replies_in m.acts)) outcome 0
at_full demands m outcome request h counts wants full = subst (λ o. IsAtFull (meant demands m.sites m.limit) m.acts 0 (main_after (replies_in m.acts)) o 0) (sym wants) here
  where
    some : (n : ℕ) → request.site < n → get_or (one_set n) 0 [] ≡ range_with_len 0 n
    some zero low = absurd (omega (arith, low))
    some (suc n) low = refl

    here : IsAtFull (meant demands m.sites m.limit) m.acts 0 (main_after (replies_in m.acts)) (Wants request) 0
    here =
        record {
          unfinished = record { no_trap = λ t e. cc; not_over = refl };
          full = rw (some m.sites full.site, acts_at_all m.sites m.acts h.own) (omega (arith, h.few, full.full));
          wants =
              record {
                site = request.site;
                wants = (refl, λ waits. never_waits (after m.acts).bag m.tuples request.ask counts full.goes waits);
                of_set = rw (some m.sites full.site) (site_in_range 0 m.sites request.site (omega arith) (omega (arith, full.site)));
              };
        }

-- the report of a run that leaves off so is good
pub leaves_good : (demands : Demands) (m : Moment) (output : List ℕ) (end : PlainEnd) → Leaves demands m output end → GoodRun (meant demands m.sites m.limit) Turns (run_of m.sites m.acts output end)
leaves_good demands m output (Ended values) l =
    let d = legal demands m l.history l.demanded in
    let now = l.at_last ∙ ap (λ o. record { output = output; outcome = o }) l.ends in
    good_run demands m output (Finishes values) l.history now (Ended values) d
    (good_report demands m output (Finishes values) l.history now (Ended values) (refl, refl) (wants_nothing demands m output (Finishes values) l.history now (Ended values) (λ site w. w.1)) refl)
    (AllEnded (λ _. not_stuck demands m output (Finishes values) l.history now refl) refl (tt, tt))
leaves_good demands m output (Trapped trap) l =
    let d = legal demands m l.history l.demanded in
    let now = l.at_last ∙ ap (λ o. record { output = output; outcome = o }) l.ends in
    good_run demands m output (Traps trap) l.history now (Trapped trap) d
    (good_report demands m output (Traps trap) l.history now (Trapped trap) refl (wants_nothing demands m output (Traps trap) l.history now (Trapped trap) (λ site w. w)) refl)
    (failure demands m output (Traps trap) l.history now (Trapped trap) refl refl tt)
leaves_good demands m output (HistoryFull set) l =
    let d = legal demands m l.history l.demanded in
    let full = at_full demands m l.outcome l.ends.1.0 l.history (counts demands m output l.outcome l.history l.at_last) l.ends.1.1 l.ends.1.2 in
    good_run demands m output l.outcome l.history l.at_last (HistoryFull set) d
    (good_report demands m output l.outcome l.history l.at_last (HistoryFull set) (subst (λ s. IsAtFull (meant demands m.sites m.limit) m.acts 0 (main_after (replies_in m.acts)) l.outcome s) (sym l.ends.0) full) (λ other f w. l.ends.0 ∙ first_set m.sites other w.site w.of_set) refl)
    (failure demands m output l.outcome l.history l.at_last (HistoryFull set) refl refl tt)
leaves_good demands m output NoMemory l =
    let d = legal demands m l.history l.demanded in
    good_run demands m output l.outcome l.history l.at_last NoMemory d
    (good_report demands m output l.outcome l.history l.at_last NoMemory tt (λ set f w. tt) (inl refl))
    (failure demands m output l.outcome l.history l.at_last NoMemory refl refl tt)
leaves_good demands m output Waiting l =
    let d = legal demands m l.history l.demanded in
    let request = l.ends.0 in
    let now = l.at_last ∙ ap (λ o. record { output = output; outcome = o }) l.ends.1 in
    let waits : AskWaits (after m.acts).bag request.ask = waits_on_bag (after m.acts).bag m.tuples request.ask (counts demands m output (Wants request) l.history now) l.ends.2 in
    good_run demands m output (Wants request) l.history now Waiting d
    (good_report demands m output (Wants request) l.history now Waiting (record { no_trap = λ t e. cc; not_over = refl }) (wants_nothing demands m output (Wants request) l.history now Waiting (λ site w. w.1 waits)) refl)
    (SomeWait tt (is_stuck demands m output (Wants request) l.history now refl waits) refl (tt, tt))
leaves_good demands m output NoThread l = absurd l.ends
leaves_good demands m output (Stopped by) l = absurd l.ends
