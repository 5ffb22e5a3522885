-- Scopes: what a name is at a place. (ISO/IEC 9899:1999, 6.2.1. That a function is known before its text, and that of several declarations
-- in one scope the first counts: this project.)
use Rattle.std.specs.Prelude.{ℕ, nat_eq, Bool, List, [], ◌∷◌, ◌++◌, Option, Some, None, is_some, if◌then◌else◌}
use Rattle.std.specs.Cmp.Lexicographic.{pointwise}
use Rattle.cl_ast.specs.declared.tree.Name.{Name}
use Rattle.cl_types.specs.declared.declared.Declared.{Declared}
use Rattle.cl_types.specs.declared.fault.TypeKind.TheVariants as kinds
use Rattle.cl_types.specs.Notes.{Note, found}

-- a name and what it is declared as
pub record Declaration : Type 0 where
  pub name : List ℕ
  pub what : Declared

-- what is known at a place: what its own scope has declared so far, what the scopes round it have, each newest first; and the functions of the
-- whole text, the first of each name
pub record Known : Type 0 where
  pub here : List Declaration
  pub around : List Declaration
  pub functions : List Declaration

abbrev pub same_name : List ℕ → List ℕ → Bool
same_name a b = pointwise nat_eq a b

-- the first declaration of a name in a list
abbrev pub declaration_in : List Declaration → List ℕ → Option Declaration
declaration_in [] name = None
declaration_in (d ∷ ds) name = if same_name name d.name then Some d else declaration_in ds name

abbrev pub what_of : Option Declaration → Option Declared
what_of None = None
what_of (Some d) = Some d.what

-- what a name is: what was declared newest, in the innermost scope that has it; else the function of that name, wherever it stands
abbrev pub look_up : List ℕ → Known → Option Declared
look_up name known = what_of (declaration_in ((known.here ++ known.around) ++ known.functions) name)

-- whether a name is declared in this very scope already
abbrev pub is_declared_here : List ℕ → Known → Bool
is_declared_here name known = is_some (declaration_in known.here name)

-- a declaration; one of a name that its scope has already changes nothing
abbrev pub declare : List ℕ → Declared → Known → Known
declare name what known = if is_declared_here name known then known else record known { here = record { name = name; what = what } ∷ known.here }

-- a name that is declared again
abbrev pub declared_again : Name → Known → List Note
declared_again name known = if is_declared_here name.bytes known then found kinds.TwiceDeclared name.span.start ∷ [] else []

-- at the beginning of a scope of its own
abbrev pub enter : Known → Known
enter known = record known { here = []; around = known.here ++ known.around }
