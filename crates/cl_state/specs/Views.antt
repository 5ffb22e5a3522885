-- What contracts see of the variables of a process: the plain ones of the definitions. (This project.)
use Rattle.std.specs.Prelude.{ℕ, suc, ◌+◌, List, [], ◌∷◌, map, drop, Option, Some, None, option_map, if◌then◌else◌}
use Rattle.std.specs.Borrow.{Bor}
use Rattle.cl_meaning.specs.Variables as plain
use Rattle.cl_listing.specs.Names.{Name, same_name}
use Rattle.cl_meaning.specs.Variables.{Scope, is_named}
use Rattle.cl_state.specs.declared.variable.Variable.{Variable}
use Rattle.cl_state.specs.declared.scope.TheConstants.{FEW}

-- a variable as the meaning has it
abbrev pub variable_of : Variable → plain.Variable
variable_of v = record { name = v.name.now; of = v.of; values = v.values.items }

-- variables as a scope of the meaning
abbrev pub scope_of : List Variable → Scope
scope_of vs = map variable_of vs

-- what was found, or what stands round it
abbrev pub found_or : plain.Variable → Option (Bor Variable) → plain.Variable
found_or outer None = outer
found_or outer (Some v) = variable_of v.now

-- the place of the first variable of a name in a scope
abbrev pub place_in : Name → Scope → Option ℕ
place_in name [] = None
place_in name (v ∷ vs) = if is_named name v then Some 0 else option_map suc (place_in name vs)

-- a place that was counted from a later one
abbrev pub further : ℕ → Option ℕ → Option ℕ
further n None = None
further n (Some k) = Some (k + n)

-- the place of the first variable of a name behind the first few
abbrev pub place_behind : Name → List Variable → Option ℕ
place_behind name vs = further FEW (place_in name (scope_of (drop FEW vs)))

-- the place of the innermost variable of a name: of its scope, and in that
abbrev pub inner_or : Option (ℕ × ℕ) → Option ℕ → Option (ℕ × ℕ)
inner_or (Some p) here = Some (suc p.0, p.1)
inner_or None here = option_map (λ k. (0, k)) here

-- the place of the innermost variable of a name, where the outermost scope comes first
abbrev pub innermost : Name → List Scope → Option (ℕ × ℕ)
innermost name [] = None
innermost name (s ∷ ss) = inner_or (innermost name ss) (place_in name s)

-- the place of a name that is there, or the new one where it is of this name
abbrev pub first_or : List ℕ → ℕ → List ℕ → Option ℕ → Option ℕ
first_or name place other (Some k) = Some k
first_or name place other None = if same_name name other then Some place else None
