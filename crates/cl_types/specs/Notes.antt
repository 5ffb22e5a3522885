-- What a walk over a tree notes, in the order of the text: faults, operations and functions.
use Rattle.std.specs.Prelude.{ℕ, ◌+◌, ◌==◌, List, [], ◌∷◌, if◌then◌else◌}
use Rattle.cl_types.specs.declared.fault.TypeKind.{TypeKind}
use Rattle.cl_types.specs.declared.fault.TypeKind.TheVariants as kinds
use Rattle.cl_types.specs.declared.fault.Fault.{Fault}
use Rattle.cl_ground.specs.declared.limits.TheConstants.{MOST_FUNCTIONS, MOST_SITES}

pub data Note : Type 0 where
  -- a fault
  Found : (fault : Fault) → Note
  -- an operation, at its word
  Site : (place : ℕ) → Note
  -- a function, at its name
  Function : (place : ℕ) → Note

-- a fault of this kind at a place, as a note
abbrev pub found : TypeKind → ℕ → Note
found kind place = Found (record { place = place; kind = kind })

-- faults of these kinds at a place
abbrev pub found_all : List TypeKind → ℕ → List Note
found_all [] place = []
found_all (kind ∷ kinds) place = found kind place ∷ found_all kinds place

-- The faults among notes, where so many operations and functions stand before them. The one after 1,024 operations is a fault, and so is
-- that after 512 functions.
abbrev pub faults_among : ℕ → ℕ → List Note → List Fault
faults_among sites functions [] = []
faults_among sites functions (Found fault ∷ notes) = fault ∷ faults_among sites functions notes
faults_among sites functions (Site place ∷ notes) =
    if sites == MOST_SITES then record { place = place; kind = kinds.TooManySites } ∷ faults_among (sites + 1) functions notes
    else faults_among (sites + 1) functions notes
faults_among sites functions (Function place ∷ notes) =
    if functions == MOST_FUNCTIONS then record { place = place; kind = kinds.TooManyFunctions } ∷ faults_among sites (functions + 1) notes
    else faults_among sites (functions + 1) notes
