-- Where the code keeps variables: one behind the other, scope by scope, in the order of their declarations. So a name's cell is told by what is
-- declared before it, and a scope that is left gives its cells back. (This project.)
use Rattle.std.specs.Prelude.{ℕ, ◌+◌, if◌then◌else◌, List, [], ◌∷◌, ◌++◌}
use Rattle.cl_value.specs.declared.value.Value.{Value}
use Rattle.cl_ast.specs.declared.tree.TypeName.{TypeName}
use Rattle.cl_ast.specs.declared.statement.Parameter.{Parameter}
use Rattle.cl_listing.specs.Names.{Name, same_name}
use Rattle.cl_code.specs.Machine.{Where, Local, Global}

-- what stands behind a name: so many cells, or a constant, which has none
pub data Kept : Type 0 where
  InCells : (size : ℕ) → Kept
  AsConstant : (value : Value) → Kept

-- a name that is declared, with its type
pub record Entry : Type 0 where
  pub name : Name
  pub of : TypeName
  pub kept : Kept

-- how many cells it has
abbrev pub width_of : Kept → ℕ
width_of (InCells size) = size
width_of (AsConstant value) = 0

-- how many those of a scope have
abbrev pub width : List Entry → ℕ
width [] = 0
width (e ∷ es) = width_of e.kept + width es

-- how many those of all scopes have
abbrev pub all_width : List (List Entry) → ℕ
all_width [] = 0
all_width (scope ∷ inner) = width scope + all_width inner

-- the scopes at a place in a function: the globals, the scopes around the innermost one, and that one
pub record Layout : Type 0 where
  pub globals : List Entry
  pub outer : List (List Entry)
  pub inner : List Entry

-- those of the function, the innermost last
abbrev pub scopes : Layout → List (List Entry)
scopes layout = layout.outer ++ layout.inner ∷ []

-- these scopes
abbrev pub at : List Entry → List (List Entry) → List Entry → Layout
at globals outer inner = record { globals = globals; outer = outer; inner = inner }

-- the first cell of the frame that no variable has
abbrev pub free_cell : Layout → ℕ
free_cell layout = all_width (scopes layout)

-- ---- what a name stands for

-- nothing; so many cells from a base on, of a type; or a constant
pub data Spot : Type 0 where
  Nowhere : Spot
  Cells : (at : Where) (base size : ℕ) (of : TypeName) → Spot
  Constant : (of : TypeName) (value : Value) → Spot

-- of one entry, whose cells begin at a base
abbrev pub spot_of : Where → ℕ → Entry → Spot
spot_of at base e = by_kept e.kept
  where
    by_kept : Kept → Spot
    by_kept (InCells size) = Cells at base size e.of
    by_kept (AsConstant value) = Constant e.of value

-- of the first entry of a name in a scope; else what the name is outside
abbrev pub spot_in : Name → Where → List Entry → ℕ → Spot → Spot
spot_in name at [] base outer = outer
spot_in name at (e ∷ es) base outer = if same_name name e.name then spot_of at base e else spot_in name at es (base + width_of e.kept) outer

-- in the innermost scope that has it
abbrev pub spot_from : Name → List (List Entry) → ℕ → Spot → Spot
spot_from name [] base outer = outer
spot_from name (scope ∷ inner) base outer = spot_from name inner (base + width scope) (spot_in name Local scope base outer)

-- what a name stands for at a place
abbrev pub spot : Name → Layout → Spot
spot name layout = spot_from name (scopes layout) 0 (spot_in name Global layout.globals 0 Nowhere)

-- ---- entries

-- a variable of so many cells
abbrev pub variable_entry : Name → TypeName → ℕ → Entry
variable_entry name of size = record { name = name; of = of; kept = InCells size }

-- the cells of parameters
abbrev pub parameter_entries : List Parameter → List Entry
parameter_entries [] = []
parameter_entries (y ∷ ys) = variable_entry y.name.bytes y.type_name 1 ∷ parameter_entries ys
