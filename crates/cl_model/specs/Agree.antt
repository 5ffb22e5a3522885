-- Two meanings that demand the same of each process of each history of the one. (This project.)
use Rattle.std.specs.Prelude.{ℕ, ◌≡◌, List, Some}
use Rattle.cl_value.specs.Plain.{PlainAct, PlainRun}
use Rattle.cl_value.specs.Tickets.{by_ticket}
use Rattle.cl_model.specs.Demand.{Demands}
use Rattle.cl_model.specs.Good.{RunKind}
use Rattle.cl_model.specs.Machine.{Process, Legal, after, demand_of}
use Rattle.cl_model.specs.Meaning.{Meaning}
use Rattle.cl_model.specs.Runs.{GoodRun}

-- both demand the same of each process that stands after this history
abbrev pub AgreeAfter : Demands → Demands → List PlainAct → Type 0
AgreeAfter d e acts = (name : ℕ) (p : Process) → (after acts).process name ≡ Some p → demand_of d p ≡ demand_of e p

-- so they do after each history that is legal for the second
abbrev pub AgreeAlong : Demands → Demands → Type 0
AgreeAlong d e = (acts : List PlainAct) → Legal e acts → AgreeAfter d e acts

-- a meaning whose processes demand this
abbrev pub where_demanded : Demands → Meaning → Meaning
where_demanded demands meaning = record meaning { demands = demands }

-- they have the same legal histories, and the same good runs
pub record RunAlike (d e : Demands) : Type 0 where
  pub legal : (acts : List PlainAct) → Legal d acts → Legal e acts
  pub legal_back : (acts : List PlainAct) → Legal e acts → Legal d acts
  pub good : (meaning : Meaning) (kind : RunKind) (run : PlainRun) → GoodRun (where_demanded d meaning) kind run → GoodRun (where_demanded e meaning) kind run
  pub good_back : (meaning : Meaning) (kind : RunKind) (run : PlainRun) → GoodRun (where_demanded e meaning) kind run → GoodRun (where_demanded d meaning) kind run

-- ---- laws

-- meanings that agree along the histories of one of them have the same legal histories and good runs
abbrev pub AgreeingRunAlike : Type 0
AgreeingRunAlike = (d e : Demands) → AgreeAlong d e → RunAlike d e

-- a good run of one meaning is that of another for which its history is legal, where both agree after it
abbrev pub GoodWhereAgreed : Type 0
GoodWhereAgreed =
    (d e : Demands) (meaning : Meaning) (kind : RunKind) (run : PlainRun) → AgreeAfter d e (by_ticket run.histories) → Legal e (by_ticket run.histories) → GoodRun (where_demanded d meaning) kind run →
    GoodRun (where_demanded e meaning) kind run
