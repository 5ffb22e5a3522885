-- Why a process goes no further. (This project.)
use Rattle.std.specs.Prelude.{◌<◌, ◌≤◌, ◌≡◌, true, List, [], length, map, Option, Some, None, unwrap_or, IfSome}
use Rattle.cl_value.specs.Acts.{request_of, reply_of}
use Rattle.cl_value.specs.Answers.{waits}
use Rattle.cl_value.specs.Plain.{PlainAsk, Out, In, Rd, PlainRequest, PlainAct, Done}
use Rattle.cl_value.specs.Replay.{found}
use Rattle.cl_value.specs.Views.{plain_request}
use Rattle.cl_value.specs.declared.value.Value.{Value}
use Rattle.cl_walk.specs.Walks.{Told, Said}
use Rattle.cl_alone.specs.Moment.{Moment, IsHistory}
use Rattle.cl_alone.specs.declared.pause.Pause.{Pause}
use Rattle.cl_alone.specs.declared.pause.Why.{Why}
use Rattle.cl_alone.specs.declared.pause.Why.TheVariants as whys

-- the operation is none that waits, or a tuple of the list matches
abbrev pub GoesOn : List (List Value) → PlainAsk → Type 0
GoesOn ts (In m) = (t : List Value) × (found ts m ≡ Some t)
GoesOn ts (Rd m) = (t : List Value) × (found ts m ≡ Some t)
GoesOn ts _ = Unit {0}

-- the operation goes on, but the history has as many acts as it may have
pub record IsFullAt (m : Moment) (request : PlainRequest) : Type 0 where
  pub site : request.site < m.sites
  pub full : m.limit ≤ length m.acts
  pub goes : GoesOn m.tuples request.ask

-- the process goes no further at this request for such a reason
abbrev pub PausesFor : Moment → PlainRequest → Why → Type 0
PausesFor m request whys.Waits = waits m.tuples request.ask ≡ true
PausesFor m request whys.Full = IsFullAt m request
PausesFor m request whys.NoMemory = Unit {0}
PausesFor m request whys.Refused = Unit {0}

-- the process goes no further there, for its reason
abbrev pub IsPause : Moment → Pause → Type 0
IsPause m pause = PausesFor m (plain_request pause.request) pause.why

-- a moment, and why the process goes no further, if it doesn't
pub record Standing : Type 0 where
  pub moment : Moment
  pub pause : Option Pause

-- the acts are a history, and the process pauses for a reason that holds
pub record IsSound (m : Moment) (pause : Option Pause) : Type 0 where
  pub history : IsHistory m
  pub reason : IfSome pause (IsPause m)

-- what an act tells of its request and its answer
abbrev pub told_of : PlainAct → Told
told_of act = record { request = request_of act; reply = unwrap_or (reply_of act.what) Done }

-- the request at which the process paused, or any where it didn't
abbrev pub pending_of : Option Pause → PlainRequest
pending_of None = record { site = 0; ask = Out [] }
pending_of (Some pause) = plain_request pause.request

-- what was said so far
abbrev pub said_of : Moment → Option Pause → Said
said_of m pause = record { told = map told_of m.acts; pending = pending_of pause }
