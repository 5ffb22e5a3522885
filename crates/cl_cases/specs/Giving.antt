-- What is given in the end, whatever variables are and whatever is told that fits. (This project.)
use Rattle.std.specs.Prelude.{◌≡◌, List, map, length}
use Rattle.cl_value.specs.Plain.{PlainRequest}
use Rattle.cl_meaning.specs.Variables.{Variables}
use Rattle.cl_meaning.specs.Operations.{Does}
use Rattle.cl_model.specs.Doing.{each}
use Rattle.cl_typing.specs.Steps.{Keeps}

-- it has this property
abbrev pub AlwaysGives : {A : Type 0} → (A → Type 0) → Does A → Type 0
AlwaysGives P d = Keeps (λ (q : PlainRequest). Unit {0}) (λ (all : Variables). Unit {0}) P d

-- one value for each part
abbrev pub OneEach : {X A : Type 0} → (X → Does A) → List X → Type 0
OneEach f xs = AlwaysGives (λ values. length values ≡ length xs) (each (map f xs))
