-- What the report of a run says of it. (This project.)
use Rattle.std.specs.Prelude.{ℕ, ◌≡◌, ◌≤◌, true, List, [], ◌∷◌, length, map, Some}
use Rattle.std.specs.List.{AllByRecursion}
use Rattle.cl_value.specs.Plain.{PlainAct, PlainEnd, Ended, Trapped, NoThread, HistoryFull, NoMemory, Stopped, Waiting, PlainReport, PlainHistory, PlainRun}
use Rattle.cl_value.specs.Acts.{acts_of, names_made}
use Rattle.cl_value.specs.Replay.{Oldest}
use Rattle.cl_value.specs.Tickets.{by_ticket}
use Rattle.cl_model.specs.Demand.{Outcome, Finishes, Traps}
use Rattle.cl_model.specs.Machine.{Legal, Process, after, demand_of}
use Rattle.cl_model.specs.Ends.{is_over}
use Rattle.cl_model.specs.Good.{RunKind, Threads, IsUnfinished, OutputAgrees, HistoriesAre, some_failure, EndsAgree}
use Rattle.cl_model.specs.Meaning.{Meaning, IsFull, WantsSet, EndsAtFull}

-- a process can't go on since the history of the set that it wants is full
pub record IsAtFull (meaning : Meaning) (acts : List PlainAct) (name : ℕ) (p : Process) (outcome : Outcome) (set : ℕ) : Type 0 where
  pub unfinished : IsUnfinished name p outcome
  pub full : IsFull meaning acts set
  pub wants : WantsSet meaning (after acts).bag p outcome set

-- the end agrees with what the process demands after its replies
abbrev pub EndIs : Meaning → RunKind → List PlainAct → PlainReport → Process → Outcome → PlainEnd → Type 0
EndIs meaning kind acts r p outcome (Ended values) = (outcome ≡ Finishes values) × (is_over r.name p outcome ≡ true)
EndIs meaning kind acts r p outcome (Trapped t) = outcome ≡ Traps t
EndIs meaning kind acts r p outcome NoThread = (kind ≡ Threads) × (r.acts ≡ [])
EndIs meaning kind acts r p outcome (HistoryFull set) = IsAtFull meaning acts r.name p outcome set
EndIs meaning kind acts r p outcome NoMemory = Unit {0}
EndIs meaning kind acts r p outcome (Stopped by) = IsUnfinished r.name p outcome
EndIs meaning kind acts r p outcome Waiting = IsUnfinished r.name p outcome

-- where the process wants a set that is full, it ends so
abbrev pub FullEnds : Meaning → List PlainAct → Process → Outcome → PlainEnd → Type 0
FullEnds meaning acts p outcome end =
    (set : ℕ) → IsFull meaning acts set → WantsSet meaning (after acts).bag p outcome set → EndsAtFull set end

-- the report is that of a process of the history
pub record GoodReport (meaning : Meaning) (kind : RunKind) (acts : List PlainAct) (r : PlainReport) : Type 0 where
  pub process : Process
  pub stands : (after acts).process r.name ≡ Some process
  pub start : r.start ≡ process.start
  pub acts_are : r.acts ≡ acts_of r.name acts
  pub kids_are : r.kids ≡ names_made r.acts
  pub end_is : EndIs meaning kind acts r process (demand_of meaning.demands process).outcome r.end
  pub full_ends : FullEnds meaning acts process (demand_of meaning.demands process).outcome r.end
  pub output_is : OutputAgrees r (demand_of meaning.demands process).output r.end

-- the history has no more acts than a set may have
abbrev pub IsWithinLimit : ℕ → PlainHistory → Type 0
IsWithinLimit limit history = length history.acts ≤ limit

-- the report of a run of a program that means this
pub record GoodRun (meaning : Meaning) (kind : RunKind) (run : PlainRun) : Type 0 where
  pub histories : HistoriesAre 0 meaning.sets run.histories
  pub within : AllByRecursion (IsWithinLimit meaning.limit) run.histories
  pub legal : Legal meaning.demands (by_ticket run.histories)
  pub oldest : Oldest (by_ticket run.histories)
  pub names : map (λ r. r.name) run.reports ≡ 0 ∷ names_made (by_ticket run.histories)
  pub reports : AllByRecursion (GoodReport meaning kind (by_ticket run.histories)) run.reports
  pub ends : EndsAgree (some_failure run.reports) meaning.demands kind (by_ticket run.histories) run
