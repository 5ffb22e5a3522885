-- The table of declarations: what it keeps beside the declarations themselves. (This project.)
use Rattle.std.specs.Prelude.{ℕ, ◌-◌, List, [], ◌∷◌, take, drop, length, Option, Some, None, if◌then◌else◌}
use Rattle.cl_types.specs.declared.scopes.Entry.{Entry}
use Rattle.cl_types.specs.Declarations.{Declaration, Known, same_name}
use Rattle.cl_types.specs.declared.declared.Declared.{Declared}
use denote.Ref.{Bor}

abbrev pub declaration_of : Entry → Declaration
declaration_of e = record { name = e.name.now; what = e.what }

-- how many declarations are older than the newest of a name
abbrev pub place_of : List ℕ → List Entry → Option ℕ
place_of name [] = None
place_of name (e ∷ es) = if same_name name e.name.now then Some (length es) else place_of name es

abbrev pub function_of : Bor (List ℕ) × Declared → Declaration
function_of f = record { name = f.0.now; what = f.1 }

-- the scope round this one, of so many declarations round it
abbrev pub left : ℕ → Known → Known
left outer known = record known { here = take (length known.around - outer) known.around; around = drop (length known.around - outer) known.around }

-- what stands behind the first, where there is one
abbrev pub behind_first : {A : Type 0} → List A → List A
behind_first [] = []
behind_first (x ∷ xs) = xs

-- without the newest declaration of the scope
abbrev pub forgotten : Known → Known
forgotten known = record known { here = behind_first known.here }
