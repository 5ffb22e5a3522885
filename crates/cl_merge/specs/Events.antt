-- A run at each moment, and one event of it: one act more, of one of its processes, at a site of a set. (This project.)
use Rattle.std.specs.Prelude.{◌≡◌, ◌⊎◌, ◌↔◌, ℕ, ◌+◌, true, false, List, [], length, Some}
use Rattle.cl_value.specs.Acts.{is_eval, is_site_of, acts_of, AsksWith}
use Rattle.cl_value.specs.Answers.{waits}
use Rattle.cl_value.specs.Plain.{PlainAct, PlainRequest}
use Rattle.cl_value.specs.Replay.{found, TakesOldest, Oldest, replay, MissesRightly, MissesFrom}
use Rattle.cl_value.specs.Tickets.{NumberedFrom}
use Rattle.cl_value.specs.declared.template.Slot.{Slot}
use Rattle.cl_model.specs.Alone.{replies_in}
use Rattle.cl_model.specs.Ends.{AskWaits}
use Rattle.cl_model.specs.Machine.{Process, fresh, made_by, DemandAllows, Legal, after}
use Rattle.cl_model.specs.Meaning.{Meaning, sites_of, acts_at}
use Rattle.cl_model.specs.Processes.{has_landed}
use Rattle.cl_merge.specs.Members.{In}
use Rattle.cl_merge.specs.Processes.{Started, AreProcesses, process_after}
use Rattle.cl_merge.specs.Requests.{MayAsk}

-- what holds at each moment of a run, of all acts so far and of the processes that there are: tickets count the acts, each act is at a site of a
-- set, each set takes and misses rightly by itself, and the processes are those of the acts
pub record IsRunning (meaning : Meaning) (acts : List PlainAct) (started : List Started) : Type 0 where
  pub numbered : NumberedFrom 1 acts
  pub sites : (a : PlainAct) → In a acts → (set : ℕ) × (is_site_of (sites_of meaning set) a.site ≡ true)
  pub oldest : (set : ℕ) → Oldest (acts_at (sites_of meaning set) acts)
  pub misses : (set : ℕ) → MissesFrom [] (acts_at (sites_of meaning set) acts)
  pub processes : AreProcesses meaning.demands acts started

-- what is told of a moment of a run: its acts are a legal history of one bag, its processes are those of the machine, and what is found and what
-- waits in a set is what is found and what waits in the bag
pub record IsTold (meaning : Meaning) (acts : List PlainAct) (processes : List Started) : Type 0 where
  pub legal : Legal meaning.demands acts
  pub oldest : Oldest acts
  pub stands : (b : Started) → In b processes → (after acts).process b.name ≡ Some (process_after b acts)
  pub only : (name : ℕ) (p : Process) → (after acts).process name ≡ Some p → (b : Started) × In b processes × (b.name ≡ name)
  pub found : (set : ℕ) (request : PlainRequest) → MayAsk meaning.demands processes request → is_site_of (sites_of meaning set) request.site ≡ true → (m : List Slot) → AsksWith request.ask m → found (replay acts) m ≡ found (replay (acts_at (sites_of meaning set) acts)) m
  pub waits : (set : ℕ) (request : PlainRequest) → MayAsk meaning.demands processes request → is_site_of (sites_of meaning set) request.site ≡ true → (waits (replay (acts_at (sites_of meaning set) acts)) request.ask ≡ true) ↔ AskWaits (after acts).bag request.ask

-- the act comes next: it is demanded of a process that hasn't landed, takes or misses rightly in its set, and has the next ticket
pub record MayHappen (meaning : Meaning) (acts : List PlainAct) (processes : List Started) (act : PlainAct) (doer : Started) (set : ℕ) : Type 0 where
  pub is_one : In doer processes
  pub proc : act.proc ≡ doer.name
  pub ticket : act.ticket ≡ length acts + 1
  pub not_landed : has_landed (acts_of doer.name acts) ≡ false
  pub demanded : DemandAllows act.what act doer.start (meaning.demands doer.start (replies_in (acts_of doer.name acts))).outcome
  pub site : is_site_of (sites_of meaning set) act.site ≡ true
  pub takes : TakesOldest (replay (acts_at (sites_of meaning set) acts)) act.what
  pub misses : MissesRightly (replay (acts_at (sites_of meaning set) acts)) act.what

-- the process that the act makes
abbrev pub IsBorn : PlainAct → Started → Started → Type 0
IsBorn act doer new = (new.name ≡ act.ticket) × (made_by act.site act.what (fresh doer.start) ≡ Some (fresh new.start))

-- the processes after an act: those before it, and the one that it makes, if it makes one
pub record AreNext (act : PlainAct) (doer : Started) (processes next : List Started) : Type 0 where
  pub each : (new : Started) → In new next → In new processes ⊎ IsBorn act doer new
  pub old : (old : Started) → In old processes → In old next
  pub born : is_eval act.what ≡ true → (new : Started) × In new next × (new.name ≡ act.ticket)
