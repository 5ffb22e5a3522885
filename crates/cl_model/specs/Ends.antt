-- When the processes of a state are at an end, and when they wait for good. (This project.)
use Rattle.std.specs.Prelude.{ℕ, ◌≡◌, ◌==◌, Bool, true, false, ◌||◌, ◌&&◌, List, Some}
use Rattle.cl_value.specs.Plain.{PlainAsk, In, Rd, PlainAct}
use Rattle.cl_model.specs.Bag.{Bag, NoneMatches}
use Rattle.cl_model.specs.Demand.{Demands, Outcome, Wants, Finishes}
use Rattle.cl_model.specs.Machine.{State, Process, after, demand_of}

-- whether a process has finished
abbrev pub is_finished : Outcome → Bool
is_finished (Finishes values) = true
is_finished _ = false

-- whether a process is over: it has landed, or it is process 0 and has finished
abbrev pub is_over : ℕ → Process → Outcome → Bool
is_over name p outcome = p.landed || (name == 0 && is_finished outcome)

-- the operation is an `in` or `rd` that no tuple of the bag matches
abbrev pub AskWaits : Bag → PlainAsk → Type 0
AskWaits bag (In m) = NoneMatches bag m
AskWaits bag (Rd m) = NoneMatches bag m
AskWaits bag _ = ⊥

-- the process waits
abbrev pub Waits : Bag → Outcome → Type 0
Waits bag (Wants request) = AskWaits bag request.ask
Waits bag _ = ⊥

-- a process that isn't over
pub record GoesOn (demands : Demands) (state : State) (name : ℕ) (p : Process) : Type 0 where
  pub stands : state.process name ≡ Some p
  pub not_over : is_over name p (demand_of demands p).outcome ≡ false

-- every process that isn't over waits, and there is such a process
pub record Stuck (demands : Demands) (acts : List PlainAct) : Type 0 where
  pub each : (name : ℕ) (p : Process) → GoesOn demands (after acts) name p → Waits (after acts).bag (demand_of demands p).outcome
  pub some : (name : ℕ) × (p : Process) × GoesOn demands (after acts) name p
