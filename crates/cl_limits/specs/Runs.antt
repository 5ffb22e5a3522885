-- What more ticks change of histories and runs. (This project.)
use Rattle.std.specs.Prelude.{◌≡◌, ◌≢◌, ◌≤◌, ℕ, List, Some}
use Rattle.std.specs.List.{AllByRecursion}
use Rattle.cl_value.specs.declared.process.Trap.TheVariants.{StepLimit}
use Rattle.cl_value.specs.Plain.{PlainAct, PlainEnd, Trapped, NoThread, NoMemory, PlainRun}
use Rattle.cl_value.specs.Tickets.{by_ticket}
use Rattle.cl_ast.specs.declared.statement.Item.{Item}
use Rattle.cl_model.specs.Agree.{where_demanded}
use Rattle.cl_model.specs.Demand.{Demands, Traps}
use Rattle.cl_model.specs.Machine.{Process, Legal, after, demand_of}
use Rattle.cl_model.specs.Good.{RunKind, end_in}
use Rattle.cl_model.specs.Meaning.{Meaning}
use Rattle.cl_model.specs.Runs.{GoodRun}
use Rattle.cl_meaning.specs.Process.{demands}

-- no process of the history trapped for want of ticks
abbrev pub NoneRanOut : Demands → List PlainAct → Type 0
NoneRanOut demands acts = (name : ℕ) (p : Process) → (after acts).process name ≡ Some p → (demand_of demands p).outcome ≢ Traps StepLimit

-- an end that tells that the process didn't trap so; of one that had no thread or no memory the report doesn't say how far it was
abbrev pub EndsOtherwise : PlainEnd → Type 0
EndsOtherwise (Trapped t) = t ≢ StepLimit
EndsOtherwise NoThread = ⊥
EndsOtherwise NoMemory = ⊥
EndsOtherwise _ = Unit {0}

-- processes that have few ticks, and the same with more
pub record RunFurther (few more : Demands) : Type 0 where
  -- what may come to pass with few may with more
  pub legal : (acts : List PlainAct) → Legal few acts → Legal more acts
  -- where no process of a good run trapped for want of them, it is a good run with more
  pub good : (meaning : Meaning) (kind : RunKind) (run : PlainRun) → GoodRun (where_demanded few meaning) kind run → NoneRanOut few (by_ticket run.histories) → GoodRun (where_demanded more meaning) kind run
  -- and that is so where each of its processes ended otherwise
  pub by_reports : (meaning : Meaning) (kind : RunKind) (run : PlainRun) → GoodRun (where_demanded few meaning) kind run → AllByRecursion (λ r. EndsOtherwise (end_in r)) run.reports → NoneRanOut few (by_ticket run.histories)

-- so do the processes of a text
abbrev pub RunWithMore : List Item → Type 0
RunWithMore xs = (few more : ℕ) → few ≤ more → RunFurther (demands xs few) (demands xs more)
