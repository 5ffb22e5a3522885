-- The relation between a state of the meaning and a state of the code. (This project.)
use Rattle.std.specs.Prelude.{◌≡◌, ℕ, ◌≤◌, List, [], ◌∷◌, ◌++◌, length, map, ℤ}
use Rattle.std.specs.List.{AllByRecursion}
use Rattle.cl_value.specs.declared.value.Value.{Value}
use Rattle.cl_ast.specs.declared.tree.TypeName.{TypeName}
use Rattle.cl_model.specs.Doing.{State}
use Rattle.cl_model.specs.Numbers.{number}
use Rattle.cl_meaning.specs.Variables.{Variable, Scope, Variables}
use Rattle.cl_code.specs.Machine.{Cells}
use Rattle.cl_value.specs.Ranges.{IsWithin}
use Rattle.cl_typing.specs.Values.{IsOf}
use Rattle.cl_translation.specs.Layout.{Kept, InCells, AsConstant, Entry, Layout, scopes}

-- ---- values

-- a value of this type, within its range
pub record IsIn (of : TypeName) (v : Value) : Type 0 where
  pub type : IsOf of v
  pub within : IsWithin v

-- their numbers
abbrev pub numbers : List Value → List ℤ
numbers vs = map number vs

-- ---- variables

-- so many values, or the value of a constant
abbrev pub IsKept : Kept → List Value → Type 0
IsKept (InCells size) vs = length vs ≡ size
IsKept (AsConstant value) vs = vs ≡ value ∷ []

-- a variable is one of this entry: of its name and type, with as many values of the type as it has cells
pub record IsLaidOut (e : Entry) (v : Variable) : Type 0 where
  pub name : v.name ≡ e.name
  pub of : v.of ≡ e.of
  pub kept : IsKept e.kept v.values
  pub typed : AllByRecursion (IsIn e.of) v.values

-- the variables of a scope are those of its entries, in order
abbrev pub ScopeIs : List Entry → Scope → Type 0
ScopeIs [] [] = Unit {0}
ScopeIs (e ∷ es) (v ∷ vs) = IsLaidOut e v × ScopeIs es vs
ScopeIs _ _ = ⊥

-- so it is with each scope
abbrev pub ScopesAre : List (List Entry) → List Scope → Type 0
ScopesAre [] [] = Unit {0}
ScopesAre (es ∷ ess) (scope ∷ inner) = ScopeIs es scope × ScopesAre ess inner
ScopesAre _ _ = ⊥

-- ---- their cells

-- the numbers of a variable that has cells; a constant has none
abbrev pub cells_of : Kept → Variable → List ℤ
cells_of (InCells size) v = numbers v.values
cells_of (AsConstant value) v = []

-- those of a scope, one variable behind the other
abbrev pub flat : List Entry → Scope → List ℤ
flat (e ∷ es) (v ∷ vs) = cells_of e.kept v ++ flat es vs
flat _ _ = []

-- those of all scopes
abbrev pub all_flat : List (List Entry) → List Scope → List ℤ
all_flat (es ∷ ess) (scope ∷ inner) = flat es scope ++ all_flat ess inner
all_flat _ _ = []

-- ---- states

-- The variables lie in the cells in order; behind those of the frame are the numbers that are held, and cells that may hold anything. The counts
-- are the same, and at most so many ticks are left.
pub record Stands (bound : ℕ) (layout : Layout) (held : List ℤ) (s : State Variables) (t : State Cells) : Type 0 where
  pub ticks : s.ticks ≡ t.ticks
  pub low : s.ticks ≤ bound
  pub cells : s.cells ≡ t.cells
  pub printed : s.printed ≡ t.printed
  pub outside : ScopeIs layout.globals s.variables.globals
  pub inside : ScopesAre (scopes layout) s.variables.locals
  pub globals : t.variables.globals ≡ flat layout.globals s.variables.globals
  pub rest : List ℤ
  pub frame : t.variables.frame ≡ all_flat (scopes layout) s.variables.locals ++ (held ++ rest)
