-- How a run of one process ends. (This project.)
use Rattle.std.specs.Prelude.{ℕ, ◌≡◌, true, List, map, Option, Some, None}
use Rattle.cl_value.specs.Answers.{waits}
use Rattle.cl_value.specs.Plain.{Main, PlainEnd, Ended, Trapped, HistoryFull, NoMemory, Waiting, PlainRequest}
use Rattle.cl_model.specs.Alone.{replies_in}
use Rattle.cl_model.specs.Demand.{Demands, Outcome, Wants, Finishes, Traps}
use Rattle.cl_walk.specs.Walked.{AreDemanded}
use Rattle.cl_walk.specs.declared.public.Ending.{Ending}
use Rattle.cl_walk.specs.declared.public.Ending.TheVariants as endings
use Rattle.cl_alone.specs.Moment.{Moment, IsHistory}
use Rattle.cl_alone.specs.Pauses.{IsFullAt, told_of}
use Rattle.cl_alone.specs.declared.pause.Pause.{Pause}
use Rattle.cl_alone.specs.declared.pause.Why.{Why}
use Rattle.cl_alone.specs.declared.pause.Why.TheVariants as whys

-- the end of a process that pauses for such a reason; where it is refused there is no report
abbrev pub end_of_pause : Why → Option PlainEnd
end_of_pause whys.Waits = Some Waiting
end_of_pause whys.Full = Some (HistoryFull 0)
end_of_pause whys.NoMemory = Some NoMemory
end_of_pause whys.Refused = None

-- the end of a process that pauses; without a pause there is none
abbrev pub end_at : Option Pause → Option PlainEnd
end_at None = None
end_at (Some pause) = end_of_pause pause.why

-- the end of a process whose walk ended so, where this is why it paused
abbrev pub end_of : Ending → Option Pause → Option PlainEnd
end_of (endings.Finished values) pause = Some (Ended values.items)
end_of (endings.Trapped trap) pause = Some (Trapped trap)
end_of endings.Paused pause = end_at pause

-- the end agrees with what comes next at a moment
abbrev pub EndsSo : Moment → Outcome → PlainEnd → Type 0
EndsSo m outcome (Ended values) = outcome ≡ Finishes values
EndsSo m outcome (Trapped trap) = outcome ≡ Traps trap
EndsSo m outcome (HistoryFull set) = (set ≡ 0) × ((request : PlainRequest) × (outcome ≡ Wants request) × IsFullAt m request)
EndsSo m outcome NoMemory = Unit {0}
EndsSo m outcome Waiting = (request : PlainRequest) × (outcome ≡ Wants request) × (waits m.tuples request.ask ≡ true)
EndsSo m outcome _ = ⊥

-- Process 0 has left off at a moment, with this output and this end: its acts are a history, each was demanded, and after all replies it demands
-- what agrees with the end.
pub record Leaves (demands : Demands) (m : Moment) (output : List ℕ) (end : PlainEnd) : Type 0 where
  pub history : IsHistory m
  pub demanded : AreDemanded (demands Main) (map told_of m.acts)
  pub outcome : Outcome
  pub at_last : demands Main (replies_in m.acts) ≡ record { output = output; outcome = outcome }
  pub ends : EndsSo m outcome end
