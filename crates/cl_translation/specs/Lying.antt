-- Short stretches of code: one instruction, a conversion, and what goes through cells that are kept for a while. Each is told with the height of
-- the stack before it. (This project.)
use Rattle.std.specs.Prelude.{◌≡◌, ℕ, zero, suc, ◌+◌, List, [], ◌∷◌, length, Option, Some, None, slice_get}
use Rattle.cl_ast.specs.declared.tree.TypeName.{TypeName}
use Rattle.cl_ast.specs.declared.statement.Parameter.{Parameter}
use Rattle.cl_code.specs.Plain.{PlainProgram}
use Rattle.cl_code.specs.Machine.{Where}
use Rattle.cl_code.specs.declared.instr.Instr.{Instr}
use Rattle.cl_code.specs.declared.instr.Instr.TheVariants as code
use Rattle.cl_translation.specs.Chosen.{store, store_at, conversion}

-- this instruction stands at this address
abbrev pub Has : PlainProgram → ℕ → Instr → Type 0
Has p a i = slice_get p.code a ≡ Some i

-- with this height: `Lies p n a i`
pub record Lies (p : PlainProgram) (n a : ℕ) (i : Instr) : Type 0 where
  pub here : Has p a i
  pub height : slice_get p.heights a ≡ Some n

-- from an address to another stands this instruction, or nothing
abbrev pub Passes : PlainProgram → ℕ → ℕ → Option Instr → ℕ → Type 0
Passes p n a None b = b ≡ a
Passes p n a (Some i) b = Lies p n a i × (b ≡ suc a)

-- So many numbers are stored in the cells from one on, the topmost first, and the height is this one behind them.
abbrev pub Keeps : PlainProgram → ℕ → ℕ → ℕ → ℕ → ℕ → Type 0
Keeps p n cell zero a b = b ≡ a
Keeps p n cell (suc count) a b = Lies p (suc (n + count)) a (code.StoreLocal cell) × Keeps p n (suc cell) count (suc a) b

-- where a formal's value goes: to a cell, or to an element whose index is held in a cell
pub data Target : Type 0 where
  ToCell : (at : Where) (base : ℕ) → Target
  ToElement : (at : Where) (base size held : ℕ) → Target

-- values that are kept from a cell on, the last first, go to their places in order
abbrev pub Sets : PlainProgram → ℕ → ℕ → List Target → ℕ → ℕ → Type 0
Sets p n cell [] a b = b ≡ a
Sets p n cell (ToCell at base ∷ more) a b =
    Lies p n a (code.LoadLocal (cell + length more))
    × Lies p (suc n) (suc a) (store at base)
    × Sets p n cell more (suc (suc a)) b
Sets p n cell (ToElement at base size held ∷ more) a b =
    Lies p n a (code.LoadLocal held)
    × Lies p (suc n) (suc a) (code.LoadLocal (cell + length more))
    × Lies p (suc (suc n)) (suc (suc a)) (store_at at base size)
    × Sets p n cell more (suc (suc (suc a))) b

-- values of these types that are kept from a cell on, the last first, are pushed in order, each converted to the type of its parameter. The height
-- before them, and behind.
pub data Loads (p : PlainProgram) (cell : ℕ) : ℕ → List TypeName → List Parameter → ℕ → ℕ → ℕ → Type 0 where
  NothingLoaded : (n a : ℕ) → Loads p cell n [] [] n a a
  Loaded : (n m a b c : ℕ) (of : TypeName) (ofs : List TypeName) (y : Parameter) (ys : List Parameter) →
      Lies p n a (code.LoadLocal (cell + length ofs)) →
      Passes p (suc n) (suc a) (conversion of y.type_name) b →
      Loads p cell (suc n) ofs ys m b c →
      Loads p cell n (of ∷ ofs) (y ∷ ys) m a c
