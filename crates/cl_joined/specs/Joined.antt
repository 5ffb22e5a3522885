-- What is known of a run of a program when all its processes are joined and the table of tickets is closed. (This project.)
use Rattle.std.specs.Prelude.{◌≡◌, ◌⊎◌, ℕ, ◌<◌, suc, true, false, List, [], ◌∷◌, length, map, Contains, Some, slice_get}
use Rattle.std.specs.List.{AllByRecursion}
use Rattle.cl_value.specs.Acts.{is_site_of, names_made}
use Rattle.cl_value.specs.Plain.{PlainEnd, Ended, Trapped, NoThread, HistoryFull, NoMemory, Stopped, Waiting, PlainReport, PlainHistory, PlainRun}
use Rattle.cl_value.specs.Replay.{replay}
use Rattle.cl_value.specs.Tickets.{by_ticket, NumberedFrom}
use Rattle.cl_model.specs.Demand.{Outcome, Finishes, Traps}
use Rattle.cl_model.specs.Ends.{is_over}
use Rattle.cl_model.specs.Good.{RunKind, Threads, IsUnfinished, OutputAgrees, CanBeStuck, IsEnded, end_in, is_failure, status_of}
use Rattle.cl_model.specs.Machine.{Process, demand_of}
use Rattle.cl_model.specs.Meaning.{Meaning, sites_of}
use Rattle.cl_model.specs.Processes.{Follows, process_by}
use Rattle.cl_sig.specs.Shapes.{sites_of_sets}
use Rattle.cl_set.specs.Keeping.{Keeps}
use Rattle.cl_set.specs.Sets.{PlainSet}
use Rattle.cl_ticket.specs.Participants.{Mark, Root, Participant}
use Rattle.cl_ticket.specs.Points.{names_of, AreBelow, SameNumbers, OwnActs, HaveOwners, IsMadeBy, FullMarks, HaltMarks, IsHalter}
use Rattle.cl_ticket.specs.Rule.{name_of}
use Rattle.cl_ticket.specs.Starts.{start_of}
use Rattle.cl_ticket.specs.Weights.{Each}
use Rattle.cl_code.specs.Meaning.{meaning_of}
use Rattle.cl_code.specs.Plain.{PlainProgram}
use Rattle.cl_code.specs.Starts.{shapes}
use Rattle.cl_merge.specs.Kept.{WantsOn, WaitsThere}
use Rattle.cl_merge.specs.Members.{In}

-- ---- what the sets have kept

-- the history that a set hands out
abbrev pub history_of : PlainSet → PlainHistory
history_of set = record { set = set.shape.set; acts = set.acts }

-- a set keeps what each set keeps, and may have so many acts
abbrev pub KeepsWithin : ℕ → PlainSet → Type 0
KeepsWithin limit set = Keeps set × (set.limit ≡ limit)

-- a set has the shape that the program has for its number
abbrev pub HasItsShape : PlainProgram → PlainSet → Type 0
HasItsShape p set = slice_get (shapes p) set.shape.set ≡ Some set.shape

-- numbers rise
abbrev pub NumbersRise : List ℕ → Type 0
NumbersRise [] = Unit {0}
NumbersRise (k ∷ ks) = AllByRecursion (λ later. k < later) ks × NumbersRise ks

-- the sets are those of the program, in order of their numbers; where it has no site there is one, which stays empty
pub record AreSetsOf (p : PlainProgram) (limit : ℕ) (sets : List PlainSet) : Type 0 where
  pub shaped : Each (HasItsShape p) sets
  pub numbers : AreBelow (length (shapes p)) (map (λ (s : PlainSet). s.shape.set) sets)
  pub order : NumbersRise (map (λ (s : PlainSet). s.shape.set) sets)
  pub keep : Each (KeepsWithin limit) sets

-- the histories that are reported: none where the program has no set
abbrev pub reported_of : List (List ℕ) → List PlainHistory → List PlainHistory
reported_of [] histories = []
reported_of (sites ∷ sets) histories = histories

-- ---- what the closed table tells

-- what `close` of the table of tickets ensures of these histories, of these participants, process 0 first, and of word 1
pub record Closes (histories : List PlainHistory) (main : Participant) (gathered : List Participant) (halt : ℕ) : Type 0 where
  pub tickets : NumberedFrom 1 (by_ticket histories)
  pub sets : ℕ
  pub root : main.origin ≡ Root sets
  pub made : SameNumbers (names_of gathered) (names_made (by_ticket histories))
  pub acts : OwnActs histories (main ∷ gathered)
  pub owners : HaveOwners histories (main ∷ gathered)
  pub starts : Each (IsMadeBy (main ∷ gathered)) gathered
  pub full : FullMarks histories (main ∷ gathered)
  pub halted : HaltMarks halt (main ∷ gathered)
  pub halter : IsHalter halt (main ∷ gathered)

-- ---- what a process hands back

-- the process of a participant that has this report
abbrev pub process_of : Participant → PlainReport → Process
process_of q r = process_by r.start q.acts

-- it met this full set, at whose sites it would have acted
pub record WasFull (meaning : Meaning) (q : Participant) (r : PlainReport) (outcome : Outcome) (set : ℕ) : Type 0 where
  pub unfinished : IsUnfinished r.name (process_of q r) outcome
  pub mark : Mark
  pub marked : Contains q.full mark
  pub number : mark.set ≡ set
  pub full : length mark.acts ≡ meaning.limit
  pub site : ℕ
  pub wants : WantsOn (replay mark.acts) (process_of q r) outcome site
  pub of_set : is_site_of (sites_of meaning set) site ≡ true

-- the end agrees with what the machine demands, and with the marks of the participant; by turns or in a pool it may wait at a set none of whose
-- tuples match
abbrev pub EndsAsMarked : Meaning → RunKind → List PlainHistory → Participant → PlainReport → Outcome → PlainEnd → Type 0
EndsAsMarked meaning kind histories q r outcome (Ended values) = (outcome ≡ Finishes values) × (is_over r.name (process_of q r) outcome ≡ true)
EndsAsMarked meaning kind histories q r outcome (Trapped t) = outcome ≡ Traps t
EndsAsMarked meaning kind histories q r outcome NoThread = (kind ≡ Threads) × (q.acts ≡ [])
EndsAsMarked meaning kind histories q r outcome (HistoryFull set) = WasFull meaning q r outcome set
EndsAsMarked meaning kind histories q r outcome NoMemory = Unit {0}
EndsAsMarked meaning kind histories q r outcome (Stopped by) = IsUnfinished r.name (process_of q r) outcome × Contains q.saw (Some by)
EndsAsMarked meaning kind histories q r outcome Waiting = CanBeStuck kind × IsUnfinished r.name (process_of q r) outcome × WaitsThere meaning histories outcome

-- name, start, acts and kids are those of the participant; its acts answer what it demands; it is marked as failed where its end is a failure
pub record IsReportOf (meaning : Meaning) (kind : RunKind) (histories : List PlainHistory) (q : Participant) (r : PlainReport) : Type 0 where
  pub name : r.name ≡ name_of q.origin
  pub start : r.start ≡ start_of q.origin
  pub acts : r.acts ≡ q.acts
  pub kids : r.kids ≡ names_made q.acts
  pub follows : Follows meaning.demands r.start [] q.acts
  pub output : OutputAgrees r (demand_of meaning.demands (process_of q r)).output r.end
  pub failed : q.failed ≡ is_failure r.end
  pub end : EndsAsMarked meaning kind histories q r (demand_of meaning.demands (process_of q r)).outcome r.end

-- each report is of a participant, and each participant has a report
pub record AreReportsOf (meaning : Meaning) (kind : RunKind) (histories : List PlainHistory) (participants : List Participant) (reports : List PlainReport) : Type 0 where
  pub each : (r : PlainReport) → In r reports → (q : Participant) × In q participants × IsReportOf meaning kind histories q r
  pub all : (q : Participant) → In q participants → (r : PlainReport) × In r reports × IsReportOf meaning kind histories q r

-- ---- the run

-- the status is that of the report that word 1 names; where it names none, 7 where some wait, and else 0
pub record StatusIs (halt : ℕ) (run : PlainRun) : Type 0 where
  pub none : halt ≡ 0 → ((run.status ≡ 0) × AllByRecursion (λ r. IsEnded (end_in r)) run.reports) ⊎ ((run.status ≡ 7) × (r : PlainReport) × In r run.reports × (r.end ≡ Waiting))
  pub some : (r : PlainReport) → In r run.reports → halt ≡ suc r.name → run.status ≡ status_of r.end

-- all of it: the sets of the program, what `close` tells of their histories and of the participants, and the reports, in order of names, with the
-- histories and the status of the run; none waits where another failed
pub record IsJoined (p : PlainProgram) (ticks limit : ℕ) (kind : RunKind) (sets : List PlainSet) (main : Participant) (gathered : List Participant) (halt : ℕ) (run : PlainRun) : Type 0 where
  pub are : AreSetsOf p limit sets
  pub histories : run.histories ≡ reported_of (sites_of_sets p.sets) (map history_of sets)
  pub closes : Closes (map history_of sets) main gathered halt
  pub reports : AreReportsOf (meaning_of p ticks limit) kind run.histories (main ∷ gathered) run.reports
  pub names : NumbersRise (map (λ r. r.name) run.reports)
  pub calm : (r other : PlainReport) → In r run.reports → In other run.reports → r.end ≡ Waiting → is_failure other.end ≡ false
  pub status : StatusIs halt run
