-- How processes and acts of a run belong together. (Gelernter 1985; names and starts of processes: this project.)
use Rattle.std.specs.Prelude.{◌≡◌, ◌⊎◌, ℕ, ◌<◌, true, List, [], Some}
use Rattle.std.specs.List.{AllByRecursion}
use Rattle.cl_value.specs.Acts.{is_eval, acts_of}
use Rattle.cl_value.specs.Plain.{PlainAct, PlainStart, Main, PlainReport}
use Rattle.cl_model.specs.Demand.{Demands}
use Rattle.cl_model.specs.Machine.{Process, fresh, made_by}
use Rattle.cl_model.specs.Processes.{Follows, process_by}
use Rattle.cl_merge.specs.Members.{In}

-- a process of a run: its name, and how it began
pub record Started : Type 0 where
  pub name : ℕ
  pub start : PlainStart

-- the process of a report
abbrev pub started_by : PlainReport → Started
started_by r = record { name = r.name; start = r.start }

-- what a process is after acts of the run: it did those of its name
abbrev pub process_after : Started → List PlainAct → Process
process_after b acts = process_by b.start (acts_of b.name acts)

-- a process has the ticket of an act as its name, and begins as this act of another process makes it begin
abbrev pub IsMade : List Started → List PlainAct → Started → Type 0
IsMade processes acts b =
    (maker : Started) × (act : PlainAct) × In maker processes × In act acts × (act.ticket ≡ b.name) × (act.proc ≡ maker.name) × (made_by act.site act.what (fresh maker.start) ≡ Some (fresh b.start))

-- The processes of acts: the acts of its name are above its name, and answer what each process demands; each act is of one of them; one begins at
-- main, and the others are those that the acts make.
pub record AreProcesses (demands : Demands) (acts : List PlainAct) (processes : List Started) : Type 0 where
  pub above : (b : Started) → In b processes → AllByRecursion (λ (a : PlainAct). b.name < a.ticket) (acts_of b.name acts)
  pub owners : (a : PlainAct) → In a acts → (b : Started) × In b processes × (b.name ≡ a.proc)
  pub main : (b : Started) × In b processes × (b.name ≡ 0)
  pub starts : (b : Started) → In b processes → ((b.name ≡ 0) × (b.start ≡ Main)) ⊎ IsMade processes acts b
  pub born : (a : PlainAct) → In a acts → is_eval a.what ≡ true → (b : Started) × In b processes × (b.name ≡ a.ticket)
  pub follows : (b : Started) → In b processes → Follows demands b.start [] (acts_of b.name acts)
