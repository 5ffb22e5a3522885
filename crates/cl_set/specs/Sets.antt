-- What contracts see of a set. (This project.)
use Rattle.std.specs.Prelude.{ℕ, List, [], ◌∷◌, length, Option, Some, None}
use Rattle.cl_value.specs.Acts.{ask_of}
use Rattle.cl_value.specs.Plain.{PlainAct, PlainWhat, PlainRequest, PlainAsk, In, Rd, Inp, Rdp}
use Rattle.cl_value.specs.Replay.{replay, replayed}
use Rattle.cl_value.specs.declared.value.Value.{Value}
use Rattle.cl_value.specs.declared.template.Slot.{Slot}
use Rattle.cl_sig.specs.Shapes.{PlainShape}
use Rattle.cl_sig.specs.declared.shape.Class.{Class}
use Rattle.cl_sig.specs.declared.shape.Class.TheVariants as classes
use Rattle.cl_keyed.specs.Keys.{asked_at}
use Rattle.cl_keyed.specs.Tables.{tuples_with}

-- an operation that was done at a site, and has no ticket yet
pub record Deed : Type 0 where
  pub site : ℕ
  pub what : PlainWhat

-- a set: its shape, the most acts of its history, its history, and what is begun
pub record PlainSet : Type 0 where
  pub shape : PlainShape
  pub limit : ℕ
  pub acts : List PlainAct
  pub begun : Option Deed

-- a list of tuples after what is begun
abbrev pub after_deed : List (List Value) → Option Deed → List (List Value)
after_deed ts None = ts
after_deed ts (Some deed) = replayed ts deed.what

-- the content: the tuples that the history and what is begun leave
abbrev pub content : PlainSet → List (List Value)
content set = after_deed (replay set.acts) set.begun

-- what is begun, as it is kept
abbrev pub what_begun : Option Deed → Option PlainWhat
what_begun None = None
what_begun (Some deed) = Some deed.what

-- the request that it answers
abbrev pub asked_in : Deed → PlainRequest
asked_in deed = record { site = deed.site; ask = ask_of deed.what }

-- the act of what is begun, with its ticket and its process
abbrev pub sealed : ℕ → ℕ → Option Deed → List PlainAct
sealed ticket name None = []
sealed ticket name (Some deed) = record { ticket = ticket; proc = name; site = deed.site; what = deed.what } ∷ []

-- the most comparisons of a search in such a content, by the class
abbrev pub cost_by : Class → List (List Value) → List Slot → ℕ
cost_by classes.Counter ts m = 0
cost_by classes.Queue ts m = 0
cost_by (classes.Keyed f) ts m = tuples_with f (asked_at f m) ts
cost_by classes.List ts m = length ts

-- the most comparisons of an operation: none where it doesn't search
abbrev pub cost_of : Class → List (List Value) → PlainAsk → ℕ
cost_of class ts (In m) = cost_by class ts m
cost_of class ts (Rd m) = cost_by class ts m
cost_of class ts (Inp m) = cost_by class ts m
cost_of class ts (Rdp m) = cost_by class ts m
cost_of class ts _ = 0
