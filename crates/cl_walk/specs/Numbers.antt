-- Numbers that may be greater than a word of the machine holds. (This project.)
use Rattle.std.specs.Prelude.{ℕ, ◌-◌, ◌^◌, nat_lt, if◌then◌else◌, List, [], ◌∷◌, Option, Some, None, option_map, suc}
use Rattle.cl_ast.specs.declared.statement.Function.{Function}
use Rattle.cl_listing.specs.Names.{Name, same_name}

-- the number, or the greatest of 64 bits where that is less
abbrev pub capped : ℕ → ℕ
capped n = if nat_lt n (2 ^ 64) then n else 2 ^ 64 - 1

-- the place of the first function of a name
abbrev pub place_named : Name → List Function → Option ℕ
place_named name [] = None
place_named name (f ∷ fs) = if same_name name f.name.bytes then Some 0 else option_map suc (place_named name fs)

-- the first function of a name
abbrev pub first_named : Name → List Function → Option Function
first_named name [] = None
first_named name (f ∷ fs) = if same_name name f.name.bytes then Some f else first_named name fs
