-- When judging a tree ends without one. (This project.)
use Rattle.std.specs.Prelude.{◌≡◌, List, [], Some, Result, Ok, Err}
use Rattle.cl_types.specs.declared.public.TypeEnd.{TypeEnd}
use Rattle.cl_types.specs.declared.public.TypeEnd.TheVariants as ends
use Rattle.cl_types.specs.declared.fault.Fault.{Fault}
use Rattle.cl_types.specs.Faults.{first}

-- a fault is the first; there is none where the tree is typed; want of memory says nothing
abbrev pub IsEndOf : {A : Type 0} → List Fault → Result A TypeEnd → Type 0
IsEndOf fs (Ok x) = fs ≡ []
IsEndOf fs (Err (ends.Fault place kind)) = first fs ≡ Some (record { place = place; kind = kind })
IsEndOf fs (Err ends.NoMemory) = Unit {0}
