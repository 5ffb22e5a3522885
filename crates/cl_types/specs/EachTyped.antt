-- What holds of the fields of a tree without faults. (This project.)
use Rattle.std.specs.Prelude.{◌≤◌, length, Option, Some, None}
use Rattle.std.specs.List.{AllByRecursion}
use Rattle.cl_types.specs.Findings.{Finding, Text, Constant, Formal, Actual, Forms, Told}
use Rattle.cl_ground.specs.declared.limits.TheConstants.{MOST_FIELDS}

abbrev pub IsFound : {A : Type 0} → Option A → Type 0
IsFound None = ⊥
IsFound (Some t) = Unit {0}

-- the type of a formal or of an expression is found
abbrev pub HasType : Finding → Type 0
HasType Text = Unit {0}
HasType (Constant n) = Unit {0}
HasType (Formal t) = IsFound t
HasType (Actual t) = IsFound t

-- that of each field of each operation
abbrev pub EachTyped : Forms → Type 0
EachTyped fs = AllByRecursion (λ x. AllByRecursion HasType x.1) fs

-- each operation has at most 16 fields
abbrev pub EachNarrow : Told → Type 0
EachNarrow fs = AllByRecursion (λ x. length x.1 ≤ MOST_FIELDS) fs
