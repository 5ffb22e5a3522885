-- What the ends, the outputs and the histories of a run say of it. (This project.)
use Rattle.std.specs.Prelude.{ℕ, ◌+◌, ◌≡◌, ◌≢◌, Bool, true, false, ◌||◌, ◌⊎◌, List, [], ◌∷◌, Contains}
use Rattle.std.specs.List.{AllByRecursion}
use Rattle.cl_value.specs.Plain.{PlainAct, PlainEnd, Ended, Trapped, NoThread, HistoryFull, NoMemory, Stopped, Waiting, PlainReport, PlainHistory, PlainRun}
use Rattle.cl_model.specs.Demand.{Demands, Outcome, Traps}
use Rattle.cl_model.specs.Machine.{Process}
use Rattle.cl_model.specs.Ends.{Stuck, is_over}

-- how a run was made: by threads, by turns on one thread, or by a pool of workers
pub data RunKind : Type 0 where
  Threads : RunKind
  Turns : RunKind
  Pool : RunKind

-- neither at a trap nor over
pub record IsUnfinished (name : ℕ) (p : Process) (outcome : Outcome) : Type 0 where
  pub no_trap : (t : _) → outcome ≢ Traps t
  pub not_over : is_over name p outcome ≡ false

-- the output is what the process printed; one that was never begun printed nothing, and of one that met
-- want of memory before its first act it may be left out
abbrev pub OutputAgrees : PlainReport → List ℕ → PlainEnd → Type 0
OutputAgrees r output NoThread = r.output ≡ []
OutputAgrees r output NoMemory = (r.output ≡ output) ⊎ ((r.acts ≡ []) × (r.output ≡ []))
OutputAgrees r output _ = r.output ≡ output

-- each history is that of its set, and each of its acts is at one of the set's sites
abbrev pub HistoriesAre : ℕ → List (List ℕ) → List PlainHistory → Type 0
HistoriesAre number [] [] = Unit {0}
HistoriesAre number (sites ∷ sets) (h ∷ hs) = (h.set ≡ number) × AllByRecursion (λ (act : PlainAct). Contains sites act.site) h.acts × HistoriesAre (number + 1) sets hs
HistoriesAre number _ _ = ⊥

-- whether a process failed
abbrev pub is_failure : PlainEnd → Bool
is_failure (Trapped t) = true
is_failure NoThread = true
is_failure (HistoryFull set) = true
is_failure NoMemory = true
is_failure _ = false

-- the status of a run that a failure halted
abbrev pub status_of : PlainEnd → ℕ
status_of (Trapped t) = 3
status_of NoThread = 6
status_of (HistoryFull set) = 9
status_of NoMemory = 8
status_of _ = 0

-- it ended with values
abbrev pub IsEnded : PlainEnd → Type 0
IsEnded (Ended values) = Unit {0}
IsEnded _ = ⊥

-- it ended with values, or waits for good
abbrev pub IsEndedOrWaits : PlainEnd → Type 0
IsEndedOrWaits (Ended values) = Unit {0}
IsEndedOrWaits Waiting = Unit {0}
IsEndedOrWaits _ = ⊥

-- after a failure: none waits, and what is stopped was stopped by the halting process
abbrev pub IsHaltedBy : ℕ → PlainEnd → Type 0
IsHaltedBy name Waiting = ⊥
IsHaltedBy name (Stopped by) = by ≡ name
IsHaltedBy name _ = Unit {0}

-- a run by threads isn't told apart from one that still waits
abbrev pub CanBeStuck : RunKind → Type 0
CanBeStuck Threads = ⊥
CanBeStuck Turns = Unit {0}
CanBeStuck Pool = Unit {0}

-- the end of a report
abbrev pub end_in : PlainReport → PlainEnd
end_in r = r.end

-- where no process failed: each ended, or the run is stuck and those that haven't ended wait
pub data WithoutFailure (demands : Demands) (kind : RunKind) (acts : List PlainAct) (run : PlainRun) : Type 0 where
  AllEnded : (CanBeStuck kind → Stuck demands acts → ⊥) → run.status ≡ 0 → AllByRecursion (λ r. IsEnded (end_in r)) run.reports → WithoutFailure demands kind acts run
  SomeWait : CanBeStuck kind → Stuck demands acts → run.status ≡ 7 → AllByRecursion (λ r. IsEndedOrWaits (end_in r)) run.reports → WithoutFailure demands kind acts run

-- where one failed: the halting process is one that did, and that each stopped process names
pub record WithFailure (run : PlainRun) : Type 0 where
  pub halting : PlainReport
  pub reported : Contains run.reports halting
  pub failed : is_failure halting.end ≡ true
  pub status : run.status ≡ status_of halting.end
  pub others : AllByRecursion (λ r. IsHaltedBy halting.name (end_in r)) run.reports

-- whether some process failed
abbrev pub some_failure : List PlainReport → Bool
some_failure [] = false
some_failure (r ∷ rs) = is_failure r.end || some_failure rs

-- the ends and the status agree with one another
abbrev pub EndsAgree : Bool → Demands → RunKind → List PlainAct → PlainRun → Type 0
EndsAgree true demands kind acts run = WithFailure run
EndsAgree false demands kind acts run = WithoutFailure demands kind acts run
