-- Plans and seals, one after another. (This project.)
use Rattle.std.specs.Prelude.{◌≡◌, ℕ, ◌+◌, ◌≤◌, false, List, [], ◌∷◌, ◌++◌, length, map, None, All, IsTrue}
use Rattle.cl_value.specs.Acts.{request_of}
use Rattle.cl_value.specs.Plain.{PlainAct, PlainAsk, PlainRequest}
use Rattle.cl_value.specs.Replay.{replayed}
use Rattle.cl_value.specs.declared.value.Value.{Value}
use Rattle.cl_sig.specs.Suits.{suits}
use Rattle.cl_sig.specs.declared.shape.Class.TheVariants as classes
use Rattle.cl_value.specs.Answers.{answer, waits}
use Rattle.cl_set.specs.Keeping.{Keeps}
use Rattle.cl_value.specs.Tickets.{IsAbove}
use Rattle.cl_set.specs.Sets.{PlainSet, content, cost_of}

-- a plan and the seal of what it began
pub record Turn : Type 0 where
  pub request : PlainRequest
  pub ticket : ℕ
  pub proc : ℕ

-- the act of a turn on such a content
abbrev pub act_of : List (List Value) → Turn → PlainAct
act_of ts turn = record { ticket = turn.ticket; proc = turn.proc; site = turn.request.site; what = answer ts turn.request.ask }

-- the set after a turn, and after turns
abbrev pub after_turn : PlainSet → Turn → PlainSet
after_turn set turn = record { shape = set.shape; limit = set.limit; acts = set.acts ++ act_of (content set) turn ∷ []; begun = None }

-- the set after turns, one after another
abbrev pub after_turns : PlainSet → List Turn → PlainSet
after_turns set [] = set
after_turns set (turn ∷ turns) = after_turns (after_turn set turn) turns

-- a list of tuples after an operation, and after turns, each on what the one before has left
abbrev pub done_to : List (List Value) → PlainAsk → List (List Value)
done_to ts ask = replayed ts (answer ts ask)

-- a list of tuples after turns, each on what the one before has left
abbrev pub tuples_after : List (List Value) → List Turn → List (List Value)
tuples_after ts [] = ts
tuples_after ts (turn ∷ turns) = tuples_after (done_to ts turn.request.ask) turns

-- the acts of turns, in order
abbrev pub acts_of : List (List Value) → List Turn → List PlainAct
acts_of ts [] = []
acts_of ts (turn ∷ turns) = act_of ts turn ∷ acts_of (done_to ts turn.request.ask) turns

-- no turn waits
abbrev pub NoneWaits : List (List Value) → List Turn → Type 0
NoneWaits ts [] = Unit {0}
NoneWaits ts (turn ∷ turns) = (waits ts turn.request.ask ≡ false) × NoneWaits (done_to ts turn.request.ask) turns

-- the tickets of turns rise from a number on
abbrev pub RiseFrom : ℕ → List Turn → Type 0
RiseFrom n [] = Unit {0}
RiseFrom n (turn ∷ turns) = (n ≤ turn.ticket) × RiseFrom (turn.ticket + 1) turns

-- a set after turns: the content is what they leave, their acts stand behind those that were there, answer
-- their requests, and the set keeps what each set keeps
pub record IsPlayed (set : PlainSet) (turns : List Turn) : Type 0 where
  pub left : content (after_turns set turns) ≡ tuples_after (content set) turns
  pub acts : (after_turns set turns).acts ≡ set.acts ++ acts_of (content set) turns
  pub requests : map request_of (acts_of (content set) turns) ≡ map (λ turn. turn.request) turns
  pub keeps : Keeps (after_turns set turns)

-- turns on a set where nothing is begun: each suits the shape, none waits, there is room for their acts in
-- the history, and their tickets rise and are above those of the history
abbrev pub EachTurnIsKept : Type 0
EachTurnIsKept =
    (set : PlainSet) (turns : List Turn) (n : ℕ)
    → set.begun ≡ None
    → Keeps set
    → length set.acts + length turns ≤ set.limit
    → All (λ turn. IsTrue (suits set.shape turn.request)) turns
    → NoneWaits (content set) turns
    → IsAbove n set.acts
    → RiseFrom n turns
    → IsPlayed set turns

-- an operation on a set of class Counter makes no comparison
abbrev pub ACounterNeverCompares : Type 0
ACounterNeverCompares = (ts : List (List Value)) (ask : PlainAsk) → cost_of classes.Counter ts ask ≡ 0
