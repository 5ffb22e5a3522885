-- How a walk ended. (This project.)
use Rattle.std.specs.Prelude.{◌≡◌, Result, Ok, Err}
use Rattle.cl_value.specs.Plain.{PlainRequest}
use Rattle.cl_ground.specs.Room.{Room}
use Rattle.cl_value.specs.declared.value.Value.{Value}
use Rattle.cl_model.specs.Demand.{Outcome, Wants, Finishes, Traps}
use Rattle.cl_walk.specs.declared.public.Ending.{Ending}
use Rattle.cl_walk.specs.declared.public.Ending.TheVariants as endings
use Rattle.cl_walk.specs.declared.stop.Stop.{Stop}
use Rattle.cl_walk.specs.declared.stop.Stop.TheVariants as stops

-- what the process does next, where this request is pending
abbrev pub outcome_of : PlainRequest → Ending → Outcome
outcome_of pending (endings.Finished values) = Finishes values.items
outcome_of pending (endings.Trapped trap) = Traps trap
outcome_of pending endings.Paused = Wants pending

-- how a walk ended that left off so; of want of memory there is no end
abbrev pub IsEnding : Result (Room Value) Stop → Result Ending Stop → Type 0
IsEnding (Ok values) result = result ≡ Ok (endings.Finished values)
IsEnding (Err (stops.Trapped trap)) result = result ≡ Ok (endings.Trapped trap)
IsEnding (Err stops.Paused) result = result ≡ Ok endings.Paused
IsEnding (Err stops.NoMemory) result = result ≡ Err stops.NoMemory
