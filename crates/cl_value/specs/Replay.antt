-- The list of tuples that a history leaves, and the choice of the oldest match. (This project: Linda
-- leaves the choice open.)
use Rattle.std.specs.Prelude.{ℕ, suc, ◌≡◌, if◌then◌else◌, List, [], ◌∷◌, ◌++◌, Option, Some, None, option_map, slice_get, remove, option_and_then}
use Rattle.cl_value.specs.Matching.{matches}
use Rattle.cl_value.specs.Plain.{PlainWhat, DidOut, DidIn, DidRd, InpHit, InpMiss, RdpHit, RdpMiss, DidEval, DidLand, PlainAct}
use Rattle.cl_value.specs.declared.value.Value.{Value}
use Rattle.cl_value.specs.declared.template.Slot.{Slot}

-- the least place of a tuple that matches, or none
abbrev pub first_match : List (List Value) → List Slot → Option ℕ
first_match [] m = None
first_match (t ∷ ts) m = if matches m t then Some 0 else option_map suc (first_match ts m)

-- the list without one place, or the same where there is none
abbrev pub without_place : List (List Value) → Option ℕ → List (List Value)
without_place ts None = ts
without_place ts (Some i) = remove ts i

-- the list without its first match
abbrev pub without_first : List (List Value) → List Slot → List (List Value)
without_first ts m = without_place ts (first_match ts m)

-- the list after one act: an `out` or a landing appends, what takes takes the first match
abbrev pub replayed : List (List Value) → PlainWhat → List (List Value)
replayed ts (DidOut t) = ts ++ t ∷ []
replayed ts (DidIn m t) = without_first ts m
replayed ts (DidRd m t) = ts
replayed ts (InpHit m t) = without_first ts m
replayed ts (InpMiss m) = ts
replayed ts (RdpHit m t) = ts
replayed ts (RdpMiss m) = ts
replayed ts (DidEval live) = ts
replayed ts (DidLand t) = ts ++ t ∷ []

-- the list after acts, from a list before them
abbrev pub replay_from : List (List Value) → List PlainAct → List (List Value)
replay_from ts [] = ts
replay_from ts (act ∷ acts) = replay_from (replayed ts act.what) acts

-- the list after a history, which begins with no tuple
abbrev pub replay : List PlainAct → List (List Value)
replay acts = replay_from [] acts

-- the first match of the list, or none
abbrev pub found : List (List Value) → List Slot → Option (List Value)
found ts m = option_and_then (slice_get ts) (first_match ts m)

-- an act that takes or reads has the tuple that was added first among those that match
abbrev pub TakesOldest : List (List Value) → PlainWhat → Type 0
TakesOldest ts (DidIn m t) = found ts m ≡ Some t
TakesOldest ts (DidRd m t) = found ts m ≡ Some t
TakesOldest ts (InpHit m t) = found ts m ≡ Some t
TakesOldest ts (RdpHit m t) = found ts m ≡ Some t
TakesOldest ts _ = Unit {0}

-- each act does so, from a list before them
abbrev pub OldestFrom : List (List Value) → List PlainAct → Type 0
OldestFrom ts [] = Unit {0}
OldestFrom ts (act ∷ acts) = TakesOldest ts act.what × OldestFrom (replayed ts act.what) acts

-- each act of a history does so
abbrev pub Oldest : List PlainAct → Type 0
Oldest acts = OldestFrom [] acts

-- an act that misses does so where no tuple matches
abbrev pub MissesRightly : List (List Value) → PlainWhat → Type 0
MissesRightly ts (InpMiss m) = found ts m ≡ None
MissesRightly ts (RdpMiss m) = found ts m ≡ None
MissesRightly ts _ = Unit {0}

-- each act does so, from a list before them
abbrev pub MissesFrom : List (List Value) → List PlainAct → Type 0
MissesFrom ts [] = Unit {0}
MissesFrom ts (act ∷ acts) = MissesRightly ts act.what × MissesFrom (replayed ts act.what) acts
