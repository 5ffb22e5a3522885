-- What a list of tuples answers to asks, one after another. (This project: Linda leaves the choice of the
-- match open.)
use Rattle.std.specs.Prelude.{List, [], ◌∷◌, ◌++◌}
use Rattle.cl_value.specs.Answers.{answer}
use Rattle.cl_value.specs.Plain.{PlainAsk, Out, In, Rd, Inp, Rdp, Eval, Land, PlainWhat}
use Rattle.cl_value.specs.Replay.{replayed}
use Rattle.cl_value.specs.declared.value.Value.{Value}
use Rattle.cl_value.specs.declared.template.Slot.{Slot}

-- what it answers to asks, each over what the ones before have left
abbrev pub answers : List (List Value) → List PlainAsk → List PlainWhat
answers ts [] = []
answers ts (ask ∷ asks) = answer ts ask ∷ answers (replayed ts (answer ts ask)) asks

-- the list after what was done, from a list before it
abbrev pub left_after : List (List Value) → List PlainWhat → List (List Value)
left_after ts [] = ts
left_after ts (what ∷ whats) = left_after (replayed ts what) whats

-- the tuple that an ask adds
abbrev pub tuple_of : PlainAsk → List (List Value)
tuple_of (Out t) = t ∷ []
tuple_of _ = []

-- the tuples that asks add
abbrev pub tuples_of : List PlainAsk → List (List Value)
tuples_of [] = []
tuples_of (ask ∷ asks) = tuple_of ask ++ tuples_of asks

-- the template that an ask looks for
abbrev pub template_of : PlainAsk → List (List Slot)
template_of (In m) = m ∷ []
template_of (Rd m) = m ∷ []
template_of (Inp m) = m ∷ []
template_of (Rdp m) = m ∷ []
template_of _ = []

-- the templates that asks look for
abbrev pub templates_of : List PlainAsk → List (List Slot)
templates_of [] = []
templates_of (ask ∷ asks) = template_of ask ++ templates_of asks

-- a store is asked to add, to take or to read, and for nothing else
abbrev pub IsStoreAsk : PlainAsk → Type 0
IsStoreAsk (Eval live) = ⊥
IsStoreAsk (Land t) = ⊥
IsStoreAsk _ = Unit {0}
