-- Two meanings that demand the same along the acts of a run. (This project.)
use Rattle.std.specs.Prelude.{◌≡◌, List, ◌++◌}
use Rattle.cl_value.specs.Plain.{PlainAct, PlainRun}
use Rattle.cl_value.specs.Tickets.{by_ticket}
use Rattle.cl_model.specs.Agree.{AgreeAfter}
use Rattle.cl_model.specs.Demand.{Demands}
use Rattle.cl_model.specs.Good.{RunKind}
use Rattle.cl_model.specs.Meaning.{Meaning}
use Rattle.cl_model.specs.Runs.{GoodRun}

-- both demand the same of each process that stands after any front of these acts, all of them included
abbrev pub AgreeAtEachFront : Demands → Demands → List PlainAct → Type 0
AgreeAtEachFront d e acts = (before behind : List PlainAct) → acts ≡ before ++ behind → AgreeAfter d e before

-- a good run of one meaning is a good run of another of the same sets and the same limit that agrees with it along the run
abbrev pub GoodRunsCarryOver : Type 0
GoodRunsCarryOver =
    (meaning other : Meaning) → other.sets ≡ meaning.sets → other.limit ≡ meaning.limit → (kind : RunKind) (run : PlainRun) → AgreeAtEachFront meaning.demands other.demands (by_ticket run.histories) → GoodRun meaning kind run →
    GoodRun other kind run
