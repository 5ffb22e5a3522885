-- Variables in scopes. (ISO/IEC 9899:1999, 6.2.1.)
use Rattle.std.specs.Prelude.{ℕ, if◌then◌else◌, List, [], ◌∷◌, ◌++◌, Bool, slice_get, slice_set, unwrap_or}
use Rattle.std.specs.List.{list_any}
use Rattle.cl_value.specs.declared.value.Value.{Value}
use Rattle.cl_ast.specs.declared.tree.TypeName.{TypeName}
use Rattle.cl_ast.specs.declared.tree.TypeName.TheVariants as types
use Rattle.cl_listing.specs.Names.{Name, same_name}
use Rattle.cl_meaning.specs.Operators.{zero_of}

-- a variable with its values, one but for an array; a defined constant stands beside them
pub record Variable : Type 0 where
  pub name : Name
  pub of : TypeName
  pub values : List Value

abbrev pub Scope : Type 0
Scope = List Variable

-- those of the process, and those of the function that is active, the innermost scope last
pub record Variables : Type 0 where
  pub globals : Scope
  pub locals : List Scope

abbrev pub is_named : Name → Variable → Bool
is_named name v = same_name name v.name

-- what an unknown name stands for; a tree without faults has none
abbrev pub nowhere : Variable
nowhere = record { name = []; of = types.Int; values = [] }

-- the first variable of this name in the scope; where there is none, what the name is outside
abbrev pub in_scope : Name → Scope → Variable → Variable
in_scope name [] outer = outer
in_scope name (v ∷ vs) outer = if is_named name v then v else in_scope name vs outer

-- the variable of this name in the innermost scope that has it; else what the name is outside
abbrev pub found_from : Name → List Scope → Variable → Variable
found_from name [] outer = outer
found_from name (scope ∷ inner) outer = found_from name inner (in_scope name scope outer)

-- the innermost variable of this name
abbrev pub found : Name → Variables → Variable
found name all = found_from name all.locals (in_scope name all.globals nowhere)

-- the value of a variable at a place; 0 of its type where it has none there
abbrev pub element : ℕ → Variable → Value
element at v = unwrap_or (slice_get v.values at) (zero_of v.of)

-- a variable with this value at a place, and all others as they were
abbrev pub with_element : ℕ → Value → Variable → Variable
with_element at value v = record v { values = slice_set v.values at value }

-- a scope with its first variable of this name changed
abbrev pub set_in : Name → (Variable → Variable) → Scope → Scope
set_in name change [] = []
set_in name change (v ∷ vs) = if is_named name v then change v ∷ vs else v ∷ set_in name change vs

-- whether the scope has a variable of this name
abbrev pub has : Name → Scope → Bool
has name scope = list_any (is_named name) scope

-- scopes with the variable of this name changed in the innermost that has it
abbrev pub set_from : Name → (Variable → Variable) → List Scope → List Scope
set_from name change [] = []
set_from name change (scope ∷ inner) = if list_any (has name) inner then scope ∷ set_from name change inner else set_in name change scope ∷ inner

-- the innermost variable of this name, changed
abbrev pub changed : Name → (Variable → Variable) → Variables → Variables
changed name change all =
    if list_any (has name) all.locals then record all { locals = set_from name change all.locals } else record all { globals = set_in name change all.globals }

-- scopes with one variable more in the last, which is the innermost
abbrev pub declared_in : Variable → List Scope → List Scope
declared_in v [] = []
declared_in v (scope ∷ []) = (scope ++ v ∷ []) ∷ []
declared_in v (scope ∷ next ∷ inner) = scope ∷ declared_in v (next ∷ inner)

-- one variable more, in the innermost scope
abbrev pub declared : Variable → Variables → Variables
declared v all = record all { locals = declared_in v all.locals }

-- scopes without the last, which is the innermost
abbrev pub without_innermost : List Scope → List Scope
without_innermost [] = []
without_innermost (scope ∷ []) = []
without_innermost (scope ∷ next ∷ inner) = scope ∷ without_innermost (next ∷ inner)

-- a scope of its own, and out of it
abbrev pub entered : Variables → Variables
entered all = record all { locals = all.locals ++ [] ∷ [] }

-- outside of the innermost scope, whose variables are forgotten
abbrev pub left : Variables → Variables
left all = record all { locals = without_innermost all.locals }

-- a function begins with its parameters, and the one that called it goes on with its own
abbrev pub called_with : Scope → Variables → Variables
called_with parameters all = record all { locals = parameters ∷ [] }

-- the locals of the caller again, beside the globals as the function left them
abbrev pub back_in : List Scope → Variables → Variables
back_in locals all = record all { locals = locals }
