-- When all processes are joined and the table is closed, all that a good run needs is kept.
use Rattle.std.proofs.Common.{◌≡◌, ◌⊎◌, inl, inr, ⊎_elim, get_or, ℕ, zero, suc, ◌<◌, Bool, true, false, ◌||◌, List, [], ◌∷◌, length, map, Option, Some, refl, sym, ap, subst, ◌∙◌, arith}
use Rattle.std.specs.Prelude.{Contains, IfSome}
use Rattle.std.specs.List.{AllByRecursion, range_with_len}
use mathlib.Core.List.{IsPrefix}
use Rattle.cl_value.specs.Plain.{PlainEnd, Ended, Trapped, NoThread, HistoryFull, NoMemory, Stopped, Waiting, PlainReport, PlainHistory, PlainRun}
use Rattle.cl_value.specs.Acts.{is_site_of, acts_of, names_made}
use Rattle.cl_value.specs.Replay.{replay}
use Rattle.cl_value.specs.Tickets.{in_order, acts_in, by_ticket, NumberedFrom}
use Rattle.cl_model.specs.Demand.{Outcome}
use Rattle.cl_model.specs.Good.{RunKind, OutputAgrees, HistoriesAre, CanBeStuck, IsEnded, IsEndedOrWaits, IsHaltedBy, WithFailure, is_failure, some_failure, end_in}
use Rattle.cl_model.specs.Machine.{demand_of}
use Rattle.cl_model.specs.Meaning.{Meaning, sites_of}
use Rattle.cl_model.specs.Processes.{process_by}
use Rattle.cl_sig.specs.Numbers.{count_of}
use Rattle.cl_sig.specs.Shapes.{shape, sites_from, sites_of_sets}
use Rattle.cl_set.specs.Sets.{PlainSet}
use Rattle.cl_ticket.specs.Participants.{Mark, Participant}
use Rattle.cl_ticket.specs.Points.{HasSet, names_of}
use Rattle.cl_ticket.specs.Rule.{name_of, Agrees}
use Rattle.cl_ticket.specs.Weights.{Each}
use Rattle.cl_code.specs.Meaning.{meaning_of}
use Rattle.cl_code.specs.Plain.{PlainProgram}
use Rattle.cl_code.specs.Starts.{no_set, shapes, shapes_of}
use Rattle.cl_code.specs.Valid.{Valid}
use Rattle.cl_merge.specs.Kept.{WantsOn, MetFull, EndsSo, HasEnded, HasKept, AllWell, StatusAgrees, IsKept}
use Rattle.cl_merge.specs.Members.{In}
use Rattle.cl_merge.specs.Processes.{AreProcesses, started_by}
use Rattle.cl_merge.proofs.Carrying.{carry_over}
use Rattle.cl_merge.proofs.Members.{in_each, in_map, map_in}
use Rattle.cl_merge.proofs.Runs.{good_run}
use Rattle.cl_joined.specs.Joined.{IsJoined, EndsAsMarked, WasFull, history_of, process_of, reported_of}
use Rattle.cl_joined.specs.Laws.{SetsAreDisjoint, SetsAreApart, JoinedRunsAreGood, JoinedRunsCarryOver}
use Rattle.cl_joined.proofs.Begin.{apart}
use Rattle.cl_joined.proofs.Histories.{histories_are, each_has_kept, nothing_done}
use Rattle.cl_joined.proofs.Lists.{contains_in, in_contains, counted_in, in_counted, each_of, whole_front}
use Rattle.cl_joined.proofs.Names.{rising_same, all_rise}
use Rattle.cl_joined.proofs.Obeying.{MayBegin, obeys}
use Rattle.cl_joined.proofs.Participants.{processes, named_acts}
use Rattle.cl_joined.proofs.Shapes.{shapes_in_order}
use Rattle.cl_joined.proofs.Sites.{disjoint}

-- ---- sets

pub sets_are_disjoint : SetsAreDisjoint
sets_are_disjoint p ticks limit = disjoint (meaning_of p ticks limit) p.sets refl

pub sets_are_apart : SetsAreApart
sets_are_apart p valid ticks limit acts processes are = apart (meaning_of p ticks limit) (MayBegin p valid ticks) p.sites (obeys p valid ticks) acts processes are p.sets valid.sets refl

module _ (p : PlainProgram) (valid : Valid p) (ticks limit : ℕ) (kind : RunKind) (sets : List PlainSet) (main : Participant) (gathered : List Participant) (halt : ℕ) (run : PlainRun) (joined : IsJoined p ticks limit kind sets main gathered halt run) where
  abbrev meaning : Meaning
  meaning = meaning_of p ticks limit

  abbrev people : List Participant
  people = main ∷ gathered

  abbrev handed : List PlainHistory
  handed = map history_of sets

  -- the sets have the shapes of the program
  shaped : map (λ (s : PlainSet). s.shape) sets ≡ shapes p
  shaped = shapes_in_order (shapes p) sets joined.are.numbers joined.are.order joined.are.shaped

  -- all that was handed out is told, or there is no set and nothing was done
  Told : Type 0
  Told = ((run.histories ≡ handed) × (map (λ (s : PlainSet). s.shape) sets ≡ map (shape p.sites p.sets) (range_with_len 0 (count_of p.sets)))) ⊎ ((run.histories ≡ []) × (sites_of_sets p.sets ≡ []) × (acts_in handed ≡ []))

  told : Told
  unfolding Told
  told = by_count (count_of p.sets) refl
    where
      by_count : (count : ℕ) → count_of p.sets ≡ count → ((run.histories ≡ handed) × (map (λ (s : PlainSet). s.shape) sets ≡ map (shape p.sites p.sets) (range_with_len 0 (count_of p.sets)))) ⊎ ((run.histories ≡ []) × (sites_of_sets p.sets ≡ []) × (acts_in handed ≡ []))
      by_count zero e =
          let none : sites_of_sets p.sets ≡ [] = ap (λ n. map (sites_from 0 p.sets) (range_with_len 0 n)) e in
          inr (
            joined.histories ∙ ap (λ l. reported_of l handed) none,
            none,
            nothing_done limit no_set sets refl (shaped ∙ ap (shapes_of p) e) joined.are.keep,
          )
      by_count (suc n) e =
          let some : sites_of_sets p.sets ≡ map (sites_from 0 p.sets) (range_with_len 0 (suc n)) = ap (λ n. map (sites_from 0 p.sets) (range_with_len 0 n)) e in
          inl (
            joined.histories ∙ ap (λ l. reported_of l handed) some,
            shaped ∙ (ap (shapes_of p) e ∙ ap (λ n. map (shape p.sites p.sets) (range_with_len 0 n)) (sym e)),
          )

  -- the acts of both are the same
  same_acts : by_ticket handed ≡ by_ticket run.histories
  unfolding Told
  same_acts = ⊎_elim (λ h. ap by_ticket (sym h.0)) (λ h. ap in_order (h.2 ∙ ap acts_in (sym h.0))) told

  told_is_handed : (h : PlainHistory) → In h run.histories → In h handed
  unfolding Told
  told_is_handed h k = ⊎_elim (λ t. subst (In h) t.0 k) (λ t. absurd (subst (In h) t.0 k)) told

  -- where there is a site of a set, all is told
  handed_is_told : (set site : ℕ) → is_site_of (sites_of meaning set) site ≡ true → run.histories ≡ handed
  unfolding Told
  handed_is_told set site at = ⊎_elim (λ t. t.0) (λ t. absurd (let k = subst (λ l. is_site_of (get_or l set []) site ≡ true) t.1 at in cc)) told

  are : AreProcesses meaning.demands (by_ticket run.histories) (map started_by run.reports)
  are = subst (λ xs. AreProcesses meaning.demands xs (map started_by run.reports)) same_acts (processes meaning kind handed run.histories main gathered halt run.reports joined.closes joined.reports)

  kept_sets : (h : PlainHistory) → In h run.histories → HasKept limit h
  kept_sets h k = each_has_kept limit sets joined.are.keep h (told_is_handed h k)

  histories_of_run : HistoriesAre 0 meaning.sets run.histories
  unfolding Told
  histories_of_run =
      ⊎_elim (λ t. subst (HistoriesAre 0 (sites_of_sets p.sets)) (sym t.0) (histories_are limit p.sites p.sets 0 (count_of p.sets) sets t.1 joined.are.keep))
      (λ t. subst (λ s. HistoriesAre 0 s run.histories) (sym t.1) (subst (HistoriesAre 0 []) (sym t.0) tt)) told

  -- the mark of a full set has the whole history
  met_full : (q : Participant) → In q people → (r : PlainReport) (outcome : Outcome) (set : ℕ) → WasFull meaning q r outcome set → MetFull meaning run.histories (process_of q r) outcome set
  met_full q k r outcome set w =
      let all = handed_is_told set w.site w.of_set in
      let marks = each_of (λ (m : Mark). HasSet handed m.set × Each (λ (s : PlainHistory). s.set ≡ m.set → IsPrefix m.acts s.acts) handed) w.mark q.full (each_of (λ (q : Participant). Each (λ (m : Mark). HasSet handed m.set × Each (λ (s : PlainHistory). s.set ≡ m.set → IsPrefix m.acts s.acts) handed) q.full) q people joined.closes.full k) (contains_in w.mark q.full w.marked) in
      let h = marks.0.0 in
      let h_in = contains_in h handed marks.0.1 in
      let front = each_of (λ (s : PlainHistory). s.set ≡ w.mark.set → IsPrefix w.mark.acts s.acts) h handed marks.1 h_in marks.0.2 in
      let h_told : In h run.histories = subst (In h) (sym all) h_in in
      let few = (kept_sets h h_told).few in
      let full = w.full in
      let same : w.mark.acts ≡ h.acts = whole_front w.mark.acts h.acts front (omega arith) in
      record {
        history = h;
        is_one = h_told;
        number = marks.0.2 ∙ w.number;
        full = ap length (sym same) ∙ w.full;
        site = w.site;
        wants = subst (λ xs. WantsOn (replay xs) (process_of q r) outcome w.site) same w.wants;
        of_set = w.of_set;
      }

  ends_so : (q : Participant) → In q people → (r : PlainReport) → r.acts ≡ q.acts → (outcome : Outcome) (end : PlainEnd) → EndsAsMarked meaning kind run.histories q r outcome end → EndsSo meaning kind run.histories r (process_of q r) outcome end
  ends_so q k r own outcome (Ended values) h = h
  ends_so q k r own outcome (Trapped t) h = h
  ends_so q k r own outcome NoThread h = (h.0, own ∙ h.1)
  ends_so q k r own outcome (HistoryFull set) h = (h.unfinished, met_full q k r outcome set h)
  ends_so q k r own outcome NoMemory h = tt
  ends_so q k r own outcome (Stopped by) h = h.0
  ends_so q k r own outcome Waiting h = (h.1, h.2)

  -- a participant's acts are those of the name of its report, in the histories that are reported
  own_acts : (q : Participant) → In q people → (r : PlainReport) → r.name ≡ name_of q.origin → q.acts ≡ acts_of r.name (by_ticket run.histories)
  own_acts q k r e = named_acts meaning kind handed run.histories main gathered halt run.reports joined.closes joined.reports q k r e ∙ ap (acts_of r.name) same_acts

  has_ended : (r : PlainReport) → In r run.reports → HasEnded meaning kind run.histories (by_ticket run.histories) r
  has_ended r k =
      let q = joined.reports.each r k in
      let own = own_acts q.0 q.1 r q.2.name in
      record {
        own = q.2.acts ∙ own;
        kids = q.2.kids ∙ ap names_made (sym q.2.acts);
        output = subst (λ xs. OutputAgrees r (demand_of meaning.demands (process_by r.start xs)).output r.end) own q.2.output;
        end = subst (λ xs. EndsSo meaning kind run.histories r (process_by r.start xs) (demand_of meaning.demands (process_by r.start xs)).outcome r.end) own (ends_so q.0 q.1 r q.2.acts (demand_of meaning.demands (process_of q.0 r)).outcome r.end q.2.end);
      }

  -- ---- names
  name_in : (x : ℕ) → In x (map (λ r. r.name) run.reports) → In x (0 ∷ names_made (by_ticket handed))
  name_in x k =
      let r = in_map (λ (r : PlainReport). r.name) x run.reports k in
      let q = joined.reports.each r.0 r.1 in
      subst (λ n. In n (0 ∷ names_made (by_ticket handed))) (sym q.2.name ∙ r.2) (of_participant q.0 q.1)
    where
      of_participant : (q : Participant) → In q people → In (name_of q.origin) (0 ∷ names_made (by_ticket handed))
      of_participant q (inl e) = inl (sym (ap (λ (o : Participant). name_of o.origin) (sym e) ∙ ap name_of joined.closes.root))
      of_participant q (inr j) =
          let same = joined.closes.made (name_of q.origin) in
          let here = in_counted (name_of q.origin) (names_of gathered) (map_in (λ (o : Participant). name_of o.origin) q gathered j) in
          inr (counted_in (name_of q.origin) (names_made (by_ticket handed)) (omega arith))

  in_name : (x : ℕ) → In x (0 ∷ names_made (by_ticket handed)) → In x (map (λ r. r.name) run.reports)
  in_name x (inl e) = let r = joined.reports.all main (inl refl) in subst (λ n. In n (map (λ r. r.name) run.reports)) (r.2.name ∙ (ap name_of joined.closes.root ∙ e)) (map_in (λ (r : PlainReport). r.name) r.0 run.reports r.1)
  in_name x (inr k) =
      let same = joined.closes.made x in
      let here = in_counted x (names_made (by_ticket handed)) k in
      let q = in_map (λ (o : Participant). name_of o.origin) x gathered (counted_in x (names_of gathered) (omega arith)) in
      let r = joined.reports.all q.0 (inr q.1) in
      subst (λ n. In n (map (λ r. r.name) run.reports)) (r.2.name ∙ q.2) (map_in (λ (r : PlainReport). r.name) r.0 run.reports r.1)

  names : map (λ r. r.name) run.reports ≡ 0 ∷ names_made (by_ticket run.histories)
  names = subst (λ xs. map (λ r. r.name) run.reports ≡ 0 ∷ names_made xs) same_acts (rising_same (map (λ r. r.name) run.reports) (0 ∷ names_made (by_ticket handed)) joined.names (all_rise (by_ticket handed) joined.closes.tickets) name_in in_name)

  -- ---- who failed
  agrees : (q : Participant) → In q people → Agrees halt q
  agrees q k = each_of (Agrees halt) q people joined.closes.halted k

  no_failure : (rs : List PlainReport) → some_failure rs ≡ false → (r : PlainReport) → In r rs → is_failure r.end ≡ false
  no_failure [] e r k = absurd k
  no_failure (x ∷ rs) e r k = by_test (is_failure x.end) refl e (no_failure rs) k
    where
      by_test : (b : Bool) → is_failure x.end ≡ b → b || some_failure rs ≡ false → (some_failure rs ≡ false → (r : PlainReport) → In r rs → is_failure r.end ≡ false) → In r (x ∷ rs) → is_failure r.end ≡ false
      by_test true f e ih k = absurd cc
      by_test false f e ih (inl p) = ap (λ (y : PlainReport). is_failure y.end) (sym p) ∙ f
      by_test false f e ih (inr j) = ih e r j

  a_failure : (rs : List PlainReport) → some_failure rs ≡ true → (r : PlainReport) × In r rs × (is_failure r.end ≡ true)
  a_failure [] e = absurd cc
  a_failure (x ∷ rs) e = by_test (is_failure x.end) refl e (a_failure rs)
    where
      by_test : (b : Bool) → is_failure x.end ≡ b → b || some_failure rs ≡ true → (some_failure rs ≡ true → (r : PlainReport) × In r rs × (is_failure r.end ≡ true)) → (r : PlainReport) × In r (x ∷ rs) × (is_failure r.end ≡ true)
      by_test true f e ih = (x, inl refl, f)
      by_test false f e ih = let r = ih e in (r.0, inr r.1, r.2)

  -- a name that was seen in word 1 is the one there
  seen_by : (q : Participant) → In q people → (name : ℕ) → Contains q.saw (Some name) → halt ≡ suc name
  seen_by q k name c = each_of (λ (seen : Option ℕ). IfSome seen (λ name. halt ≡ suc name)) (Some name) q.saw (agrees q k).1 (contains_in (Some name) q.saw c)

  halted_by : (name : ℕ) → halt ≡ suc name → (q : Participant) → In q people → (r : PlainReport) (outcome : Outcome) (end : PlainEnd) → (end ≡ Waiting → ⊥) → EndsAsMarked meaning kind run.histories q r outcome end → IsHaltedBy name end
  halted_by name e q k r outcome (Ended values) calm h = tt
  halted_by name e q k r outcome (Trapped t) calm h = tt
  halted_by name e q k r outcome NoThread calm h = tt
  halted_by name e q k r outcome (HistoryFull set) calm h = tt
  halted_by name e q k r outcome NoMemory calm h = tt
  halted_by name e q k r outcome (Stopped by) calm h = let s = seen_by q k by h.1 in omega arith
  halted_by name e q k r outcome Waiting calm h = absurd (calm refl)

  with_failure : some_failure run.reports ≡ true → WithFailure run
  with_failure f =
      let r = a_failure run.reports f in
      let q = joined.reports.each r.0 r.1 in
      let some : 0 < halt = (agrees q.0 q.1).0 (q.2.failed ∙ r.2) in
      let who = joined.closes.halter some in
      let report = joined.reports.all who.0 (contains_in who.0 people who.1) in
      let named : halt ≡ suc report.0.name = who.3 ∙ ap suc (sym report.2.name) in
      record {
        halting = report.0;
        reported = in_contains report.0 run.reports report.1;
        failed = sym report.2.failed ∙ who.2;
        status = joined.status.some report.0 report.1 named;
        others = in_each (λ r. IsHaltedBy report.0.name (end_in r)) run.reports (λ other k. let s = joined.reports.each other k in halted_by report.0.name named s.0 s.1 other (demand_of meaning.demands (process_of s.0 other)).outcome other.end (λ w. let fine = joined.calm other r.0 k r.1 w in let failed = r.2 in cc) s.2.end);
      }

  well_ended : (q : Participant) → In q people → halt ≡ 0 → (r : PlainReport) (outcome : Outcome) (end : PlainEnd) → is_failure end ≡ false → EndsAsMarked meaning kind run.histories q r outcome end → IsEndedOrWaits end
  well_ended q k z r outcome (Ended values) f h = tt
  well_ended q k z r outcome (Trapped t) f h = absurd cc
  well_ended q k z r outcome NoThread f h = absurd cc
  well_ended q k z r outcome (HistoryFull set) f h = absurd cc
  well_ended q k z r outcome NoMemory f h = absurd cc
  well_ended q k z r outcome (Stopped by) f h = absurd (let s = seen_by q k by h.1 in omega arith)
  well_ended q k z r outcome Waiting f h = tt

  nobody : some_failure run.reports ≡ false → (n : ℕ) → halt ≡ n → halt ≡ 0
  nobody f zero e = e
  nobody f (suc n) e =
      let who = joined.closes.halter (omega arith) in
      let report = joined.reports.all who.0 (contains_in who.0 people who.1) in
      let fine = no_failure run.reports f report.0 report.1 in
      let failed = sym report.2.failed ∙ who.2 in
      absurd cc

  can_wait : (q : Participant) (r : PlainReport) (outcome : Outcome) → r.end ≡ Waiting → EndsAsMarked meaning kind run.histories q r outcome r.end → CanBeStuck kind
  can_wait q r outcome e h = (subst (EndsAsMarked meaning kind run.histories q r outcome) e h).0

  all_well : some_failure run.reports ≡ false → AllWell kind run
  all_well f = by_status (joined.status.none z)
    where
      z : halt ≡ 0
      z = nobody f halt refl

      by_status : ((run.status ≡ 0) × AllByRecursion (λ r. IsEnded (end_in r)) run.reports) ⊎ ((run.status ≡ 7) × (r : PlainReport) × In r run.reports × (r.end ≡ Waiting)) → AllWell kind run
      by_status (inl h) = inl h
      by_status (inr h) =
          let w = joined.reports.each h.1 h.2 in
          inr (
            can_wait w.0 h.1 (demand_of meaning.demands (process_of w.0 h.1)).outcome h.3 w.2.end,
            h.0,
            in_each (λ r. IsEndedOrWaits (end_in r)) run.reports (λ r k. let q = joined.reports.each r k in well_ended q.0 q.1 z r (demand_of meaning.demands (process_of q.0 r)).outcome r.end (no_failure run.reports f r k) q.2.end),
            h.1,
            h.2,
            h.3,
          )

  status_agrees : (b : Bool) → some_failure run.reports ≡ b → StatusAgrees b kind run
  status_agrees true e = with_failure e
  status_agrees false e = all_well e

  is_kept : IsKept meaning kind run
  is_kept =
      record {
        disjoint = sets_are_disjoint p ticks limit;
        apart = sets_are_apart p valid ticks limit (by_ticket run.histories) (map started_by run.reports) are;
        histories = histories_of_run;
        sets = kept_sets;
        numbered = subst (NumberedFrom 1) same_acts joined.closes.tickets;
        names = names;
        processes = are;
        ends = has_ended;
        status = status_agrees (some_failure run.reports) refl;
      }

-- ---- the laws

pub joined_runs_are_good : JoinedRunsAreGood
joined_runs_are_good p valid ticks limit kind sets main gathered halt run joined = good_run (meaning_of p ticks limit) kind run (is_kept p valid ticks limit kind sets main gathered halt run joined)

pub joined_runs_carry_over : JoinedRunsCarryOver
joined_runs_carry_over p valid ticks limit kind sets main gathered halt run joined other sets_same limit_same agree =
    carry_over (meaning_of p ticks limit) other sets_same limit_same kind run agree (joined_runs_are_good p valid ticks limit kind sets main gathered halt run joined)
