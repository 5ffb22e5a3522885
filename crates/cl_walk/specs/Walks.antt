-- What a walk of a meaning says and is told. (This project.)
use Rattle.std.specs.Prelude.{◌≡◌, ℕ, true, List, [], ◌∷◌, ◌++◌, Result, Ok, Err}
use Rattle.cl_value.specs.Plain.{PlainRequest, PlainReply}
use Rattle.cl_value.specs.Acts.{fits}
use Rattle.cl_model.specs.Doing.{State, Steps, Gives, Prints, Asks, Stops}
use Rattle.cl_meaning.specs.Variables.{Variables}
use Rattle.cl_meaning.specs.Operations.{Does}
use Rattle.cl_walk.specs.declared.stop.Stop.{Stop}
use Rattle.cl_walk.specs.declared.stop.Stop.TheVariants.{Trapped, Paused, NoMemory}

-- ---- what is said

-- a request, and what was answered
pub record Told : Type 0 where
  pub request : PlainRequest
  pub reply : PlainReply

-- all that a world was asked and answered, and the request at which it paused last
pub record Said : Type 0 where
  pub told : List Told
  pub pending : PlainRequest

-- what was printed, and what was told
pub record Log : Type 0 where
  pub output : List ℕ
  pub told : List Told

-- these bytes were printed besides
abbrev pub with_bytes : List ℕ → Log → Log
with_bytes bytes log = record log { output = log.output ++ bytes }

-- this request was answered so besides
abbrev pub with_told : PlainRequest → PlainReply → Log → Log
with_told request reply log = record log { told = log.told ++ record { request = request; reply = reply } ∷ [] }

-- The steps on the left, where this was printed and told, come to those on the right, where that was: each request on the way was answered by a
-- reply that fits.
pub data Walks {X : Type 0} : Steps X → Log → Steps X → Log → Type 0 where
  here : {p : Steps X} {log : Log} → Walks p log p log
  printed : {bytes : List ℕ} {rest q : Steps X} {log after : Log} → Walks rest (with_bytes bytes log) q after → Walks (Prints bytes rest) log q after
  asked : {request : PlainRequest} {rest : PlainReply → Steps X} {q : Steps X} {log after : Log} (reply : PlainReply) → fits request.ask reply ≡ true → Walks (rest reply) (with_told request reply log) q after → Walks (Asks request rest) log q after

-- ---- where a walk is

-- what a process works on, and what it printed
pub record Shown : Type 0 where
  pub state : State Variables
  pub output : List ℕ

-- where a process and its world stand
pub record Point : Type 0 where
  pub shown : Shown
  pub said : Said

-- a process that works on this, in a world that was asked so far
abbrev pub point : Shown → Said → Point
point shown said = record { shown = shown; said = said }

-- what was printed and told up to here
abbrev pub log_at : Point → Log
log_at p = record { output = p.shown.output; told = p.said.told }

-- A function of the walk that does what the meaning says, seen from where it began and where it ended: what it gives is what the meaning gives; at a
-- trap the meaning traps, and where the world paused the meaning asks for what is pending. Of want of memory nothing is said.
abbrev pub Comes : {A B : Type 0} → (B → A) → Does A → Point → Result B Stop → Point → Type 0
Comes view p from (Ok b) to = Walks (p from.shown.state) (log_at from) (Gives (view b, to.shown.state)) (log_at to)
Comes view p from (Err (Trapped t)) to = Walks (p from.shown.state) (log_at from) (Stops t) (log_at to)
Comes {A} view p from (Err Paused) to = (rest : PlainReply → Steps (A × State Variables)) × Walks (p from.shown.state) (log_at from) (Asks to.said.pending rest) (log_at to)
Comes view p from (Err NoMemory) to = Unit {0}

-- what is given as it is
abbrev pub same : {A : Type 0} → A → A
same a = a
