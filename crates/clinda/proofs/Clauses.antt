-- The clauses of a top call follow from all the ways in which a call can go, at either door, since each command is
-- fine.
use Rattle.std.proofs.Common.{◌≡◌, ◌≢◌, ℕ, ◌≤◌, ◌+◌, false, true, List, [], ◌∷◌, length, Option, Some, None, refl, sym, ap, subst, ◌∙◌, arith, inl, inr}
use Rattle.std.specs.Prelude.{◌⊎◌, IfSome, IsSome}
use Rattle.std.proofs.lemmas.List.{drop_all}
use Rattle.cl_value.specs.Plain.{PlainRun}
use Rattle.cl_outside.specs.Faults.{Rose, Quiet}
use Rattle.cl_outside.specs.Streams.{GivesAll, Drops}
use Rattle.clinda.specs.Doors.{Door, Plain, Threaded, is_served, Opens, OpensNone}
use Rattle.clinda.specs.Inputs.{limit_of, own_text, input_by, input_of, IsWithin, statuses_of, IsListed}
use Rattle.clinda.specs.Refusals.{words_refused, too_large, refused}
use Rattle.clinda.specs.Making.{Maker}
use Rattle.clinda.specs.Makers.{maker}
use Rattle.clinda.specs.Answering.{Outside, Says, SaysNothing, Has, Failed, Larger, NoRoom, Stops, Done, Stop, Go, Answered, NoCommand, Commanded}
use Rattle.clinda.specs.Top.{WordsClause, ReadsSo, ReadClause, IfLarger, TooLargeClause, JudgesInput, SourceClause, Writes, WrittenClause, IsInput, RunsProgram, RunClause, TellsStuck, StuckClause, StatusesClause, TellsHalted, Halts, HaltedClause, ReadFaultClause, LosesSo, LostClause, WriteFaultClause, IsLarger, IsText, OfWords, OfLarge, OfInput, OfProgram, WritesFront, MemoryClause, Reports, ReportClause}
use Rattle.clinda.specs.Laws.{IsFine, EachIsFine, Clauses, Widens}
use Rattle.clinda.specs.declared.words.Command.{Command}
use Rattle.clinda.proofs.Once.{spells_once}
use Rattle.clinda.proofs.Sayings.{said_status, said_kept, said_rose, said_front, said_all}
use Rattle.clinda.proofs.Ways.{if_some, of_all, if_none, no_report, not_said, listed_as, Way, Speaks, Silent, Lacks, Nothing, way_of, way_none, writes, judges, way_listed, way_not_four, way_write_fault, way_reported, own_eight, eight_reports, way_stuck, way_halted, way_reports}

-- no fault is both risen and quiet
not_both : (f g : ℕ) → Rose f g → Quiet f g → ⊥
not_both f g rose quiet = absurd (omega (arith, rose, quiet))

module _ (status : ℕ) (report : Option PlainRun) (before after : Outside) where
  -- ---- an input that was had

  had_read : (limit : Option ℕ) (own input : List ℕ) → Has limit own input before after → ReadsSo limit before after
  had_read None own input has = has.1
  had_read (Some most) own input has =
      if_some before.left _ _ (λ bytes (g : GivesAll input bytes after.left).
      let few : length bytes ≤ most + 1 = omega (arith, has.0, ap length g.same) in
      g.rest ∙ ap (λ rest. Some rest) (sym (drop_all (most + 1) bytes few)))
      has.1

  had_few : (limit : Option ℕ) (own input : List ℕ) (P : Type 0) → Has limit own input before after → IfLarger limit before P
  had_few None own input P has = tt
  had_few (Some most) own input P has = if_some before.left _ _ (λ bytes (g : GivesAll input bytes after.left) large. absurd (omega (arith, has.0, ap length g.same, large))) has.1

  had_lost : (limit : Option ℕ) (own input : List ℕ) → Has limit own input before after → LosesSo limit before after
  had_lost None own input has = has.1
  had_lost (Some most) own input has = (
    length input,
    has.0,
    if_some before.left _ _ (λ bytes (g : GivesAll input bytes after.left).
        let same : length input ≡ length bytes = ap length g.same in
        record { some = omega (arith, same); rest = g.rest ∙ ap (λ rest. Some rest) (sym (drop_all (length input) bytes (omega (arith, same)))) })
        has.1,
  )

  -- what holds of the input that was had holds of it where it is known
  of_input : (limit : Option ℕ) (own input : List ℕ) (P : List ℕ → Type 0) → Has limit own input before after → P input → IfSome (input_by limit own before.left) P
  of_input None own input P has h = subst P has.0 h
  of_input (Some most) own input P has h = if_some before.left _ _ (λ bytes (g : GivesAll input bytes after.left). subst P g.same h) has.1

  is_input : (limit : Option ℕ) (own input : List ℕ) → Has limit own input before after → IsInput (input_by limit own before.left) input
  is_input limit own input has = of_input limit own input (λ bytes. bytes ≡ input) has refl

  -- ---- a call that stopped at its reading

  stop_read : (limit : Option ℕ) → Stops limit status report before after → Quiet before.read_faults after.read_faults → (status ≡ 8 → report ≡ None → ⊥) → ReadsSo limit before after
  stop_read None s quiet memory = absurd s
  stop_read (Some most) (Failed four none rose lost silent) quiet memory = absurd (not_both _ _ rose quiet)
  stop_read (Some most) (Larger loses kept none said) quiet memory = if_some before.left _ _ (λ bytes (d : Drops (most + 1) bytes after.left). d.rest) loses
  stop_read (Some most) (NoRoom eight none kept lost silent) quiet memory = absurd (memory eight none)

  stop_large : (limit : Option ℕ) → Stops limit status report before after → Quiet before.read_faults after.read_faults → (status ≡ 8 → report ≡ None → ⊥) → IfLarger limit before ((report ≡ None) × Says too_large 2 status before after)
  stop_large None s quiet memory = absurd s
  stop_large (Some most) (Failed four none rose lost silent) quiet memory = absurd (not_both _ _ rose quiet)
  stop_large (Some most) (Larger loses kept none said) quiet memory = if_some before.left _ _ (λ bytes (d : Drops (most + 1) bytes after.left) _. (none, said)) loses
  stop_large (Some most) (NoRoom eight none kept lost silent) quiet memory = absurd (memory eight none)

  -- what is said of an input within the limit holds, since there is none
  stop_input : (limit : Option ℕ) (own : List ℕ) (P : List ℕ → Type 0) → ((input : List ℕ) → (IsWithin limit input → ⊥) → P input) → Stops limit status report before after → Quiet before.read_faults after.read_faults → (status ≡ 8 → report ≡ None → ⊥) → IfSome (input_by limit own before.left) P
  stop_input None own P f s quiet memory = absurd s
  stop_input (Some most) own P f (Failed four none rose lost silent) quiet memory = absurd (not_both _ _ rose quiet)
  stop_input (Some most) own P f (Larger loses kept none said) quiet memory = if_some before.left _ _ (λ bytes (d : Drops (most + 1) bytes after.left). f bytes (λ within. absurd (omega (arith, d.some, within)))) loses
  stop_input (Some most) own P f (NoRoom eight none kept lost silent) quiet memory = absurd (memory eight none)

  stop_none : (limit : Option ℕ) → Stops limit status report before after → report ≡ None
  stop_none None s = absurd s
  stop_none (Some most) (Failed four none rose lost silent) = none
  stop_none (Some most) (Larger loses kept none said) = none
  stop_none (Some most) (NoRoom eight none kept lost silent) = none

  stop_listed : (m : Maker) (limit : Option ℕ) (statuses : List ℕ) → IsFine m limit statuses → Stops limit status report before after → IsListed statuses status
  stop_listed m None statuses fine s = absurd s
  stop_listed m (Some most) statuses fine (Failed four none rose lost silent) = subst (λ s. IsListed statuses s) (sym four) fine.reads.1
  stop_listed m (Some most) statuses fine (NoRoom eight none kept lost silent) = subst (λ s. IsListed statuses s) (sym eight) fine.eight
  stop_listed m (Some most) statuses fine (Larger loses kept none said) = listed_as statuses 2 status fine.reads.0 fine.five (said_status said)

  stop_read_fault : (limit : Option ℕ) → Stops limit status report before after → ReadFaultClause status report before after
  stop_read_fault None s = absurd s
  stop_read_fault (Some most) (Failed four none rose lost silent) = record { rose = λ _. rose; unwritten = λ _. silent.same; no_run = λ _. none; kept = λ other. absurd (other four) }
  stop_read_fault (Some most) (NoRoom eight none kept lost silent) =
      record { rose = λ four. absurd (omega (arith, four, eight)); unwritten = λ four. absurd (omega (arith, four, eight)); no_run = λ four. absurd (omega (arith, four, eight)); kept = λ _. kept }
  stop_read_fault (Some most) (Larger loses kept none said) =
      let never : status ≡ 4 → ⊥ = not_said 2 status 4 (said_status said) (λ e. absurd (omega (arith, e))) (λ e. absurd (omega (arith, e))) in
      record { rose = λ four. absurd (never four); unwritten = λ four. absurd (never four); no_run = λ four. absurd (never four); kept = λ _. kept }

  stop_write_fault : (limit : Option ℕ) → Stops limit status report before after → WriteFaultClause status before after
  stop_write_fault None s = absurd s
  stop_write_fault (Some most) (Failed four none rose lost silent) = record { rose = λ five. absurd (omega (arith, five, four)); kept = λ _. silent.quiet }
  stop_write_fault (Some most) (NoRoom eight none kept lost silent) = record { rose = λ five. absurd (omega (arith, five, eight)); kept = λ _. silent.quiet }
  stop_write_fault (Some most) (Larger loses kept none said) = record { rose = said_rose said (λ e. absurd (omega (arith, e))); kept = said_kept said }

  stop_lost : (limit : Option ℕ) → Stops limit status report before after → (status ≡ 4) ⊎ ((status ≡ 8) × (report ≡ None)) → LosesSo limit before after
  stop_lost None s h = absurd s
  stop_lost (Some most) (Failed four none rose lost silent) h = lost
  stop_lost (Some most) (NoRoom eight none kept lost silent) h = lost
  stop_lost (Some most) (Larger loses kept none said) (inl four) = absurd (not_said 2 status 4 (said_status said) (λ e. absurd (omega (arith, e))) (λ e. absurd (omega (arith, e))) four)
  stop_lost (Some most) (Larger loses kept none said) (inr h) = absurd (not_said 2 status 8 (said_status said) (λ e. absurd (omega (arith, e))) (λ e. absurd (omega (arith, e))) h.0)

  -- no status but those of refusals, faults and want of memory comes of it
  stop_status : (n : ℕ) → n ≢ 2 → n ≢ 4 → n ≢ 5 → n ≢ 8 → (limit : Option ℕ) → Stops limit status report before after → status ≡ n → ⊥
  stop_status n two four five eight None s e = absurd s
  stop_status n two four five eight (Some most) (Failed at none rose lost silent) e = four (sym e ∙ at)
  stop_status n two four five eight (Some most) (NoRoom at none kept lost silent) e = eight (sym e ∙ at)
  stop_status n two four five eight (Some most) (Larger loses kept none said) e = not_said 2 status n (said_status said) (λ h. two (sym h)) five e

-- ---- what was written at a fault or at want of memory

module _ (door : Door) (words : List (List ℕ)) (status : ℕ) (report : Option PlainRun) (before after : Outside) where
  fronts : (text : List ℕ) {found : ℕ} → IsText door words report before text → Says text found status before after → WritesFront door words report before after
  fronts text is said = let front = said_front text said in record { text = text; is_text = is; count = front.0; within = front.1; front = front.2 }

  -- a text that was said without a report, and not at status 8
  without_run : (status ≡ 8 → ⊥) → WritesFront door words report before after → MemoryClause door words status report before after
  without_run other front = record { fault = λ _. front; memory = λ eight. absurd (other eight); nothing = λ eight. absurd (other eight) }

  -- nothing was said, and not at status 5
  without_text : (status ≡ 5 → ⊥) → SaysNothing before after → MemoryClause door words status report before after
  without_text other silent = record { fault = λ five. absurd (other five); memory = λ _ _. inr silent.same; nothing = λ _ _. silent.same }

  -- of a call that stopped at its reading
  stop_memory : (c : Command) → Opens door words c → (limit : Option ℕ) → limit ≡ limit_of c.verb → Stops limit status report before after → MemoryClause door words status report before after
  stop_memory c opens None same s = absurd s
  stop_memory c opens (Some most) same (Failed four none rose lost silent) = without_text (λ five. absurd (omega (arith, five, four))) silent
  stop_memory c opens (Some most) same (NoRoom eight none kept lost silent) = without_text (λ five. absurd (omega (arith, five, eight))) silent
  stop_memory c opens (Some most) same (Larger loses kept none said) =
      let large : IsLarger (Some most) before.left = if_some before.left _ _ (λ bytes (d : Drops (most + 1) bytes after.left). omega (arith, d.some)) loses in
      without_run (not_said 2 status 8 (said_status said) (λ e. absurd (omega (arith, e))) (λ e. absurd (omega (arith, e))))
      (fronts too_large (OfLarge c opens (subst (λ (l : Option ℕ). IsLarger l before.left) same large) refl) said)

-- ---- the clauses

module _ (each : EachIsFine) (door : Door) (words : List (List ℕ)) (status : ℕ) (report : Option PlainRun) (before after : Outside) where
  -- what holds of one command that the words spell holds of whatever command they spell
  lifted : (P : Command → Type 0) (c d : Command) → Opens door words c → Opens door words d → P c → P d
  lifted P c d one two h = subst P (spells_once words c d one.spelled two.spelled) h

  done_listed : (c : Command) → Done c status report before after → IsListed (statuses_of c.verb) status
  done_listed c (Stop s) = stop_listed status report before after (maker c) (limit_of c.verb) (statuses_of c.verb) (each c) s
  done_listed c (Go input has kept ended) = way_listed (maker c) (limit_of c.verb) (statuses_of c.verb) (each c) input status report before after (way_of (maker c) input status report before after ended)

  words_not : (n : ℕ) → Says words_refused 1 status before after → n ≢ 1 → n ≢ 5 → status ≡ n → ⊥
  words_not n said one five e = not_said 1 status n (said_status said) (λ h. one (sym h)) five e

  words_clause : Answered door words status report before after → WordsClause door words status report before after
  words_clause (NoCommand none left kept lacks said) = record { refused = λ _. record { unread = left; quiet = kept; no_run = lacks; said = said }; only = λ _. none }
  words_clause (Commanded c opens done) =
      record { refused = λ none. absurd (none c opens); only = λ one. absurd ((each c).not_one (subst (λ s. IsListed (statuses_of c.verb) s) one (done_listed c done))) }

  done_reads : (c : Command) → Done c status report before after → Quiet before.read_faults after.read_faults → (status ≡ 8 → report ≡ None → ⊥) → ReadsSo (limit_of c.verb) before after
  done_reads c (Stop s) quiet memory = stop_read status report before after (limit_of c.verb) s quiet memory
  done_reads c (Go input has kept ended) quiet memory = had_read status report before after (limit_of c.verb) (own_text c) input has

  read_clause : Answered door words status report before after → ReadClause door words status report before after
  read_clause (NoCommand none left kept lacks said) d reads = absurd (none d reads.spelled)
  read_clause (Commanded c opens done) d reads = lifted (λ x. ReadsSo (limit_of x.verb) before after) c d opens reads.spelled (done_reads c done reads.quiet reads.memory)

  done_large : (c : Command) → Done c status report before after → Quiet before.read_faults after.read_faults → (status ≡ 8 → report ≡ None → ⊥) → IfLarger (limit_of c.verb) before ((report ≡ None) × Says too_large 2 status before after)
  done_large c (Stop s) quiet memory = stop_large status report before after (limit_of c.verb) s quiet memory
  done_large c (Go input has kept ended) quiet memory = had_few status report before after (limit_of c.verb) (own_text c) input _ has

  too_large_clause : Answered door words status report before after → TooLargeClause door words status report before after
  too_large_clause (NoCommand none left kept lacks said) d reads = absurd (none d reads.spelled)
  too_large_clause (Commanded c opens done) d reads =
      lifted (λ x. IfLarger (limit_of x.verb) before ((report ≡ None) × Says too_large 2 status before after)) c d opens reads.spelled (done_large c done reads.quiet reads.memory)

  done_judges : (c : Command) → Done c status report before after → Quiet before.read_faults after.read_faults → (status ≡ 8 → report ≡ None → ⊥) → IfSome (input_of c before.left) (λ input. IsWithin (limit_of c.verb) input → JudgesInput (maker c) input status report before after)
  done_judges c (Stop s) quiet memory =
      stop_input status report before after (limit_of c.verb) (own_text c) (λ input. IsWithin (limit_of c.verb) input → JudgesInput (maker c) input status report before after) (λ input never within. absurd (never within)) s quiet memory
  done_judges c (Go input has kept ended) quiet memory =
      of_input status report before after (limit_of c.verb) (own_text c) input (λ bytes. IsWithin (limit_of c.verb) bytes → JudgesInput (maker c) bytes status report before after) has
      (λ _. judges (maker c) (limit_of c.verb) (statuses_of c.verb) (each c) input status report before after (way_of (maker c) input status report before after ended) memory)

  source_clause : Answered door words status report before after → SourceClause door words status report before after
  source_clause (NoCommand none left kept lacks said) d reads = absurd (none d reads.spelled)
  source_clause (Commanded c opens done) d reads =
      lifted (λ x. IfSome (input_of x before.left) (λ input. IsWithin (limit_of x.verb) input → JudgesInput (maker x) input status report before after)) c d opens reads.spelled (done_judges c done reads.quiet reads.memory)

  done_writes : (c : Command) → Done c status report before after → Quiet before.read_faults after.read_faults → (status ≡ 8 → report ≡ None → ⊥) → Quiet before.write_faults after.write_faults → status ≢ 8
      → IfSome (input_of c before.left) (λ input. (p : (maker c).Program) → (maker c).is input p → Writes (maker c) input p status report before after)
  done_writes c (Stop s) quiet memory calm other =
      stop_input status report before after (limit_of c.verb) (own_text c) (λ input. (p : (maker c).Program) → (maker c).is input p → Writes (maker c) input p status report before after) (λ input never p is. absurd (never ((each c).within input p is))) s quiet memory
  done_writes c (Go input has kept ended) quiet memory calm other =
      of_input status report before after (limit_of c.verb) (own_text c) input (λ bytes. (p : (maker c).Program) → (maker c).is bytes p → Writes (maker c) bytes p status report before after) has
      (writes (maker c) input status report before after (way_of (maker c) input status report before after ended) memory calm other)

  written_clause : Answered door words status report before after → WrittenClause door words status report before after
  written_clause (NoCommand none left kept lacks said) d reads calm other = absurd (none d reads.spelled)
  written_clause (Commanded c opens done) d reads calm other =
      lifted (λ x. IfSome (input_of x before.left) (λ input. (p : (maker x).Program) → (maker x).is input p → Writes (maker x) input p status report before after)) c d opens reads.spelled (done_writes c done reads.quiet reads.memory calm other)

  way_runs : (c : Command) → Opens door words c → (input : List ℕ) → Has (limit_of c.verb) (own_text c) input before after → Way (maker c) input status report before after → RunClause door words report before
  way_runs c opens input has (Speaks p is saying makes said) =
      if_some report _ (RunsProgram door words before.left) (λ run good. record { command = c; spelled = opens; input = input; program = p; bytes = is_input status report before after (limit_of c.verb) (own_text c) input has; is = is.is; good = good }) ((each c).good input p report saying makes)
  way_runs c opens input has (Silent p is saying makes eight silent) =
      if_some report _ (RunsProgram door words before.left) (λ run good. record { command = c; spelled = opens; input = input; program = p; bytes = is_input status report before after (limit_of c.verb) (own_text c) input has; is = is.is; good = good }) ((each c).good input p report saying makes)
  way_runs c opens input has (Lacks r is none said) = if_none report _ none
  way_runs c opens input has (Nothing none eight silent) = if_none report _ none

  run_clause : Answered door words status report before after → RunClause door words report before
  run_clause (NoCommand none left kept lacks said) = if_none report _ lacks
  run_clause (Commanded c opens (Stop s)) = if_none report _ (stop_none status report before after (limit_of c.verb) s)
  run_clause (Commanded c opens (Go input has kept ended)) = way_runs c opens input has (way_of (maker c) input status report before after ended)

  -- a status that a run alone has comes with a report
  reported : (n : ℕ) → IsListed (3 ∷ 6 ∷ 7 ∷ 8 ∷ 9 ∷ []) n → n ≢ 1 → n ≢ 2 → n ≢ 4 → n ≢ 5 → n ≢ 8 → Answered door words status report before after → status ≡ n → IsSome report
  reported n listed one two four five eight (NoCommand none left kept lacks said) e = absurd (words_not n said one five e)
  reported n listed one two four five eight (Commanded c opens (Stop s)) e = absurd (stop_status status report before after n two four five eight (limit_of c.verb) s e)
  reported n listed one two four five eight (Commanded c opens (Go input has kept ended)) e =
      way_reported (maker c) (limit_of c.verb) (statuses_of c.verb) (each c) input status report before after n listed two five eight (way_of (maker c) input status report before after ended) e

  done_stuck : (c : Command) → Done c status report before after → IfSome (input_of c before.left) (λ input. (p : (maker c).Program) → (maker c).is input p → IfSome report (TellsStuck (maker c) p status))
  done_stuck c (Stop s) = of_all (input_of c before.left) _ (λ _ p is. if_none report _ (stop_none status report before after (limit_of c.verb) s))
  done_stuck c (Go input has kept ended) =
      of_input status report before after (limit_of c.verb) (own_text c) input (λ bytes. (p : (maker c).Program) → (maker c).is bytes p → IfSome report (TellsStuck (maker c) p status)) has
      (way_stuck (maker c) (limit_of c.verb) (statuses_of c.verb) (each c) input status report before after (way_of (maker c) input status report before after ended))

  stuck_exact : Answered door words status report before after → (c : Command) → Opens door words c → IfSome (input_of c before.left) (λ input. (p : (maker c).Program) → (maker c).is input p → IfSome report (TellsStuck (maker c) p status))
  stuck_exact (NoCommand none left kept lacks said) d opens = absurd (none d opens)
  stuck_exact (Commanded c opens done) d also = lifted (λ x. IfSome (input_of x before.left) (λ input. (p : (maker x).Program) → (maker x).is input p → IfSome report (TellsStuck (maker x) p status))) c d opens also (done_stuck c done)

  stuck_clause : Answered door words status report before after → StuckClause door words status report before
  stuck_clause answered = record {
    reported = reported 7 refl (λ e. absurd (omega (arith, e))) (λ e. absurd (omega (arith, e))) (λ e. absurd (omega (arith, e))) (λ e. absurd (omega (arith, e))) (λ e. absurd (omega (arith, e))) answered;
    exact = stuck_exact answered;
  }

  one_or_five : (status ≡ 1) ⊎ (status ≡ 5) → IsListed (1 ∷ 5 ∷ []) status
  one_or_five (inl h) = subst (λ s. IsListed (1 ∷ 5 ∷ []) s) (sym h) refl
  one_or_five (inr h) = subst (λ s. IsListed (1 ∷ 5 ∷ []) s) (sym h) refl

  statuses_clause : Answered door words status report before after → StatusesClause door words status
  statuses_clause (NoCommand none left kept lacks said) = record { none = λ _. one_or_five (said_status said); some = λ c opens. absurd (none c opens) }
  statuses_clause (Commanded c opens done) =
      record { none = λ none. absurd (none c opens); some = λ d also. lifted (λ x. IsListed (statuses_of x.verb) status) c d opens also (done_listed c done) }

  halt_exact : (halt : ℕ) → IsListed (3 ∷ 6 ∷ 9 ∷ []) halt → halt ≢ 5 → halt ≢ 8 → Answered door words status report before after → IfSome report (TellsHalted halt status)
  halt_exact halt listed five eight (NoCommand none left kept lacks said) = if_none report _ lacks
  halt_exact halt listed five eight (Commanded c opens (Stop s)) = if_none report _ (stop_none status report before after (limit_of c.verb) s)
  halt_exact halt listed five eight (Commanded c opens (Go input has kept ended)) =
      way_halted (maker c) (limit_of c.verb) (statuses_of c.verb) (each c) input status report before after halt listed five eight (way_of (maker c) input status report before after ended)

  halts : (halt : ℕ) → IsListed (3 ∷ 6 ∷ 9 ∷ []) halt → IsListed (3 ∷ 6 ∷ 7 ∷ 8 ∷ 9 ∷ []) halt → halt ≢ 1 → halt ≢ 2 → halt ≢ 4 → halt ≢ 5 → halt ≢ 8 → Answered door words status report before after → Halts halt status report
  halts halt listed also one two four five eight answered = record { reported = reported halt also one two four five eight answered; exact = halt_exact halt listed five eight answered }

  halted_clause : Answered door words status report before after → HaltedClause status report
  halted_clause answered = record {
    trapped = halts 3 refl refl (λ e. absurd (omega (arith, e))) (λ e. absurd (omega (arith, e))) (λ e. absurd (omega (arith, e))) (λ e. absurd (omega (arith, e))) (λ e. absurd (omega (arith, e))) answered;
    no_thread = halts 6 refl refl (λ e. absurd (omega (arith, e))) (λ e. absurd (omega (arith, e))) (λ e. absurd (omega (arith, e))) (λ e. absurd (omega (arith, e))) (λ e. absurd (omega (arith, e))) answered;
    full = halts 9 refl refl (λ e. absurd (omega (arith, e))) (λ e. absurd (omega (arith, e))) (λ e. absurd (omega (arith, e))) (λ e. absurd (omega (arith, e))) (λ e. absurd (omega (arith, e))) answered;
  }

  read_fault_clause : Answered door words status report before after → ReadFaultClause status report before after
  read_fault_clause (NoCommand none left kept lacks said) =
      let other = words_not 4 said (λ e. absurd (omega (arith, e))) (λ e. absurd (omega (arith, e))) in
      record { rose = λ four. absurd (other four); unwritten = λ four. absurd (other four); no_run = λ four. absurd (other four); kept = λ _. kept }
  read_fault_clause (Commanded c opens (Stop s)) = stop_read_fault status report before after (limit_of c.verb) s
  read_fault_clause (Commanded c opens (Go input has kept ended)) =
      let other = way_not_four (maker c) (limit_of c.verb) (statuses_of c.verb) (each c) input status report before after (way_of (maker c) input status report before after ended) in
      record { rose = λ four. absurd (other four); unwritten = λ four. absurd (other four); no_run = λ four. absurd (other four); kept = λ _. kept }

  done_lost : (c : Command) → Done c status report before after → (status ≡ 4) ⊎ ((status ≡ 8) × (report ≡ None)) → LosesSo (limit_of c.verb) before after
  done_lost c (Stop s) h = stop_lost status report before after (limit_of c.verb) s h
  done_lost c (Go input has kept ended) h = had_lost status report before after (limit_of c.verb) (own_text c) input has

  lost_clause : Answered door words status report before after → LostClause door words status report before after
  lost_clause (NoCommand none left kept lacks said) = record { fault = λ c opens. absurd (none c opens); memory = λ c opens. absurd (none c opens) }
  lost_clause (Commanded c opens done) = record {
    fault = λ d also four. lifted (λ x. LosesSo (limit_of x.verb) before after) c d opens also (done_lost c done (inl four));
    memory = λ d also eight none. lifted (λ x. LosesSo (limit_of x.verb) before after) c d opens also (done_lost c done (inr (eight, none)));
  }

  write_fault_clause : Answered door words status report before after → WriteFaultClause status before after
  write_fault_clause (NoCommand none left kept lacks said) = record { rose = said_rose said (λ h. absurd (omega (arith, h))); kept = said_kept said }
  write_fault_clause (Commanded c opens (Stop s)) = stop_write_fault status report before after (limit_of c.verb) s
  write_fault_clause (Commanded c opens (Go input has kept ended)) =
      way_write_fault (maker c) (limit_of c.verb) (statuses_of c.verb) (each c) input status report before after (way_of (maker c) input status report before after ended)

  way_memory : (c : Command) → Opens door words c → (input : List ℕ) → Has (limit_of c.verb) (own_text c) input before after → Way (maker c) input status report before after → MemoryClause door words status report before after
  way_memory c opens input has (Speaks p is saying makes said) =
      let is_text : IsText door words report before saying.text = OfProgram c opens input (is_input status report before after (limit_of c.verb) (own_text c) input has) p is.is saying makes refl in
      record {
        fault = λ _. fronts door words status report before after saying.text is_text said;
        memory = λ eight _. inl (record { text = saying.text; is_text = is_text; whole = said_all said (λ five. absurd (omega (arith, five, eight))); own = own_eight (maker c) (limit_of c.verb) (statuses_of c.verb) (each c) input status report before after p saying makes said eight });
        nothing = λ eight none. absurd (no_report report none (eight_reports (maker c) (limit_of c.verb) (statuses_of c.verb) (each c) input status report before after p saying makes said eight));
      }
  way_memory c opens input has (Silent p is saying makes eight silent) = without_text door words status report before after (λ five. absurd (omega (arith, five, eight))) silent
  way_memory c opens input has (Nothing none eight silent) = without_text door words status report before after (λ five. absurd (omega (arith, five, eight))) silent
  way_memory c opens input has (Lacks r is none said) =
      without_run door words status report before after (not_said 2 status 8 (said_status said) (λ e. absurd (omega (arith, e))) (λ e. absurd (omega (arith, e))))
      (fronts door words status report before after (refused r) (OfInput c opens input (is_input status report before after (limit_of c.verb) (own_text c) input has) is.none r is.is refl) said)

  memory_clause : Answered door words status report before after → MemoryClause door words status report before after
  memory_clause (NoCommand none left kept lacks said) =
      without_run door words status report before after (words_not 8 said (λ e. absurd (omega (arith, e))) (λ e. absurd (omega (arith, e)))) (fronts door words status report before after words_refused (OfWords none refl) said)
  memory_clause (Commanded c opens (Stop s)) = stop_memory door words status report before after c opens (limit_of c.verb) refl s
  memory_clause (Commanded c opens (Go input has kept ended)) = way_memory c opens input has (way_of (maker c) input status report before after ended)

  done_none : (c : Command) → Done c status report before after → (maker c).runs ≡ false → report ≡ None
  done_none c (Stop s) runs = stop_none status report before after (limit_of c.verb) s
  done_none c (Go input has kept ended) runs = way_none (maker c) input status report before after runs (λ p saying makes. (each c).unrun input p report saying makes) (way_of (maker c) input status report before after ended)

  done_reports : (c : Command) → Done c status report before after → Quiet before.read_faults after.read_faults → (status ≡ 8 → report ≡ None → ⊥) → status ≢ 8 → IfSome (input_of c before.left) (λ input. Reports (maker c) input report)
  done_reports c (Stop s) quiet memory other =
      stop_input status report before after (limit_of c.verb) (own_text c) (λ input. Reports (maker c) input report)
      (λ input never. record { run = λ some. absurd (no_report report (stop_none status report before after (limit_of c.verb) s) some); there = λ _ p is. absurd (never ((each c).within input p is)) }) s quiet memory
  done_reports c (Go input has kept ended) quiet memory other =
      of_input status report before after (limit_of c.verb) (own_text c) input (λ bytes. Reports (maker c) bytes report) has
      (way_reports (maker c) (limit_of c.verb) (statuses_of c.verb) (each c) input status report before after (way_of (maker c) input status report before after ended) other)

  report_clause : Answered door words status report before after → ReportClause door words status report before after
  report_clause (NoCommand none left kept lacks said) = record { none = λ c opens. absurd (none c opens); exact = λ c reads. absurd (none c reads.spelled) }
  report_clause (Commanded c opens done) = record {
    none = λ d also. lifted (λ x. (maker x).runs ≡ false → report ≡ None) c d opens also (done_none c done);
    exact = λ d reads other. lifted (λ x. IfSome (input_of x before.left) (λ input. Reports (maker x) input report)) c d opens reads.spelled (done_reports c done reads.quiet reads.memory other);
  }

  pub clauses : Answered door words status report before after → Clauses door words status report before after
  clauses answered = record {
    of_words = words_clause answered;
    read = read_clause answered;
    too_large = too_large_clause answered;
    source = source_clause answered;
    written = written_clause answered;
    run = run_clause answered;
    stuck = stuck_clause answered;
    statuses = statuses_clause answered;
    halted = halted_clause answered;
    read_fault = read_fault_clause answered;
    lost = lost_clause answered;
    write_fault = write_fault_clause answered;
    memory = memory_clause answered;
    of_report = report_clause answered;
  }

-- ---- the two doors

module _ (words : List (List ℕ)) (status : ℕ) (report : Option PlainRun) (before after : Outside) where
  widened : Answered Plain words status report before after → (c : Command) → Opens Threaded words c → is_served Plain c.verb ≡ true → Answered Threaded words status report before after
  widened (NoCommand none left kept lacks said) c opens served = absurd (none c (record { spelled = opens.spelled; served = served }))
  widened (Commanded d also done) c opens served = Commanded d (record { spelled = also.spelled; served = refl }) done

  widened_none : Answered Plain words status report before after → OpensNone Threaded words → Answered Threaded words status report before after
  widened_none (NoCommand none left kept lacks said) nowhere = NoCommand nowhere left kept lacks said
  widened_none (Commanded d also done) nowhere = absurd (nowhere d (record { spelled = also.spelled; served = refl }))

  pub widens : Answered Plain words status report before after → Widens words status report before after
  widens answered = record { command = widened answered; none = widened_none answered }
