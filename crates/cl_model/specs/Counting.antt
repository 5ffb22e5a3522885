-- A list of tuples as a bag, and that it answers as the bag does. (Gelernter 1985; that the oldest match is taken: this project.)
use Rattle.std.specs.Prelude.{ℕ, ◌+◌, ◌≡◌, true, false, cond, List, [], ◌∷◌}
use Rattle.cl_value.specs.Answers.{answer, waits}
use Rattle.cl_value.specs.Matching.{same_tuple}
use Rattle.cl_value.specs.Plain.{PlainAsk}
use Rattle.cl_value.specs.Replay.{replayed}
use Rattle.cl_value.specs.declared.value.Value.{Value}
use Rattle.cl_model.specs.Bag.{Bag}
use Rattle.cl_model.specs.Ends.{AskWaits}
use Rattle.cl_model.specs.Machine.{BagAllows, bag_after}

-- how many tuples of a list equal one
abbrev pub count : List Value → List (List Value) → ℕ
count u [] = 0
count u (t ∷ ts) = cond (same_tuple t u) (count u ts + 1) (count u ts)

-- the bag has each tuple as often as the list
pub record Counts (bag : Bag) (ts : List (List Value)) : Type 0 where
  pub each : (u : List Value) → bag u ≡ count u ts

-- what the list answers to an operation that needn't wait, the bag allows, and it still counts what is left
abbrev pub AnswersAgree : Type 0
AnswersAgree =
    (bag : Bag) (ts : List (List Value)) → Counts bag ts → (ask : PlainAsk) → waits ts ask ≡ false →
    BagAllows bag (answer ts ask) × Counts (bag_after bag (answer ts ask)) (replayed ts (answer ts ask))

-- an operation waits on the list exactly where it waits on the bag
abbrev pub WaitingAgrees : Type 0
WaitingAgrees =
    (bag : Bag) (ts : List (List Value)) → Counts bag ts → (ask : PlainAsk) →
    (waits ts ask ≡ true → AskWaits bag ask) × (AskWaits bag ask → waits ts ask ≡ true)
