-- What sets, tickets and processes of a run have kept, each by itself, before all is one history. (This project.)
use Rattle.std.specs.Prelude.{◌≡◌, ◌⊎◌, ℕ, ◌≤◌, Bool, true, false, List, [], ◌∷◌, length, map}
use Rattle.std.specs.List.{AllByRecursion}
use Rattle.cl_value.specs.Acts.{is_site_of, acts_of, names_made}
use Rattle.cl_value.specs.Answers.{waits}
use Rattle.cl_value.specs.Plain.{PlainAct, PlainRequest, PlainEnd, Ended, Trapped, NoThread, HistoryFull, NoMemory, Stopped, Waiting, PlainReport, PlainHistory, PlainRun}
use Rattle.cl_value.specs.Replay.{Oldest, replay, MissesFrom}
use Rattle.cl_value.specs.Tickets.{by_ticket, NumberedFrom, TicketsRise}
use Rattle.cl_value.specs.declared.value.Value.{Value}
use Rattle.cl_model.specs.Demand.{Outcome, Wants, Finishes, Traps}
use Rattle.cl_model.specs.Ends.{is_over}
use Rattle.cl_model.specs.Good.{RunKind, Threads, IsUnfinished, OutputAgrees, HistoriesAre, IsEnded, IsEndedOrWaits, CanBeStuck, WithFailure, end_in, some_failure}
use Rattle.cl_model.specs.Machine.{Process, BeganAt, demand_of}
use Rattle.cl_model.specs.Meaning.{Meaning, sites_of}
use Rattle.cl_merge.specs.Members.{In}
use Rattle.cl_merge.specs.Processes.{AreProcesses, started_by, process_after}
use Rattle.cl_merge.specs.Requests.{AreApart, AreDisjoint}

-- ---- sets

-- what a set has kept of its history
pub record HasKept (limit : ℕ) (history : PlainHistory) : Type 0 where
  pub few : length history.acts ≤ limit
  pub tickets : TicketsRise history.acts
  pub oldest : Oldest history.acts
  pub misses : MissesFrom [] history.acts

-- ---- ends

-- the process of a report, by the acts of its name among all
abbrev pub process_of : List PlainAct → PlainReport → Process
process_of acts r = process_after (started_by r) acts

-- it would act at this site, where these are the tuples of the set
abbrev pub WantsOn : List (List Value) → Process → Outcome → ℕ → Type 0
WantsOn ts p (Wants request) site = (request.site ≡ site) × (waits ts request.ask ≡ false)
WantsOn ts p (Finishes values) site = (p.landed ≡ false) × BeganAt p.start site
WantsOn ts p _ site = ⊥

-- it would act at a site of a set whose history has as many acts as it may have
pub record MetFull (meaning : Meaning) (histories : List PlainHistory) (p : Process) (outcome : Outcome) (set : ℕ) : Type 0 where
  pub history : PlainHistory
  pub is_one : In history histories
  pub number : history.set ≡ set
  pub full : length history.acts ≡ meaning.limit
  pub site : ℕ
  pub wants : WantsOn (replay history.acts) p outcome site
  pub of_set : is_site_of (sites_of meaning set) site ≡ true

-- it demands an `in` or `rd` at a site of a set, none of whose tuples match
pub record WaitsThere (meaning : Meaning) (histories : List PlainHistory) (outcome : Outcome) : Type 0 where
  pub history : PlainHistory
  pub is_one : In history histories
  pub request : PlainRequest
  pub wants : outcome ≡ Wants request
  pub waits : waits (replay history.acts) request.ask ≡ true
  pub of_set : is_site_of (sites_of meaning history.set) request.site ≡ true

-- the end agrees with what the process demands after its replies, and with the set at which it stopped
abbrev pub EndsSo : Meaning → RunKind → List PlainHistory → PlainReport → Process → Outcome → PlainEnd → Type 0
EndsSo meaning kind histories r p outcome (Ended values) = (outcome ≡ Finishes values) × (is_over r.name p outcome ≡ true)
EndsSo meaning kind histories r p outcome (Trapped t) = outcome ≡ Traps t
EndsSo meaning kind histories r p outcome NoThread = (kind ≡ Threads) × (r.acts ≡ [])
EndsSo meaning kind histories r p outcome (HistoryFull set) = IsUnfinished r.name p outcome × MetFull meaning histories p outcome set
EndsSo meaning kind histories r p outcome NoMemory = Unit {0}
EndsSo meaning kind histories r p outcome (Stopped by) = IsUnfinished r.name p outcome
EndsSo meaning kind histories r p outcome Waiting = IsUnfinished r.name p outcome × WaitsThere meaning histories outcome

-- what a report has kept of its process, whose acts among all are these
pub record HasEnded (meaning : Meaning) (kind : RunKind) (histories : List PlainHistory) (acts : List PlainAct) (r : PlainReport) : Type 0 where
  pub own : r.acts ≡ acts_of r.name acts
  pub kids : r.kids ≡ names_made r.acts
  pub output : OutputAgrees r (demand_of meaning.demands (process_of acts r)).output r.end
  pub end : EndsSo meaning kind histories r (process_of acts r) (demand_of meaning.demands (process_of acts r)).outcome r.end

-- where none failed: all have ended, or, where this can be, some wait and the others have ended
abbrev pub AllWell : RunKind → PlainRun → Type 0
AllWell kind run =
    ((run.status ≡ 0) × AllByRecursion (λ r. IsEnded (end_in r)) run.reports)
    ⊎ (CanBeStuck kind × (run.status ≡ 7) × AllByRecursion (λ r. IsEndedOrWaits (end_in r)) run.reports × (r : PlainReport) × In r run.reports × (r.end ≡ Waiting))

-- the status agrees with the ends: with those of the processes that failed, where some did
abbrev pub StatusAgrees : Bool → RunKind → PlainRun → Type 0
StatusAgrees true kind run = WithFailure run
StatusAgrees false kind run = AllWell kind run

-- ---- the run

-- at the end, with the histories that the sets hand out: sites and requests of two sets are apart, each set and each report has kept what is its
-- own, tickets count all acts, the names are 0 and those that the acts make, and the processes of the reports are those of the acts
pub record IsKept (meaning : Meaning) (kind : RunKind) (run : PlainRun) : Type 0 where
  pub disjoint : AreDisjoint meaning
  pub apart : AreApart meaning (map started_by run.reports)
  pub histories : HistoriesAre 0 meaning.sets run.histories
  pub sets : (h : PlainHistory) → In h run.histories → HasKept meaning.limit h
  pub numbered : NumberedFrom 1 (by_ticket run.histories)
  pub names : map (λ r. r.name) run.reports ≡ 0 ∷ names_made (by_ticket run.histories)
  pub processes : AreProcesses meaning.demands (by_ticket run.histories) (map started_by run.reports)
  pub ends : (r : PlainReport) → In r run.reports → HasEnded meaning kind run.histories (by_ticket run.histories) r
  pub status : StatusAgrees (some_failure run.reports) kind run
