-- When a program is the code of a text. (This project.)
use Rattle.std.specs.Prelude.{◌≡◌, ℕ, suc, ◌<◌, ◌≤◌, ◌+◌, nat_lt, nat_le, Bool, true, List, [], length, Option, Some, None, pos, slice_get}
use Rattle.cl_ast.specs.declared.statement.Block.{out-Block}
use Rattle.cl_ast.specs.declared.statement.Function.{Function}
use Rattle.cl_ast.specs.declared.statement.Item.{Item}
use Rattle.cl_types.specs.Items.{main_name}
use Rattle.cl_typing.specs.Standing.{function_in}
use Rattle.cl_meaning.specs.Outer.{outer, functions_of, frame_cells, number_of}
use Rattle.cl_meaning.specs.Process.{cells_of_globals}
use Rattle.cl_code.specs.Plain.{PlainFunction, PlainProgram}
use Rattle.cl_code.specs.Rules.{frame_size}
use Rattle.cl_code.specs.declared.instr.Instr.{Instr}
use Rattle.cl_code.specs.declared.instr.Instr.TheVariants as code
use Rattle.cl_instances.specs.Programs.{HasTextOf}
use Rattle.cl_ground.specs.declared.limits.TheConstants.{MOST_CELLS}
use Rattle.cl_translation.specs.Around.{Around, around_in}
use Rattle.cl_translation.specs.Layout.{Entry, parameter_entries}
use Rattle.cl_translation.specs.Stands.{ScopeIs, flat}
use Rattle.cl_translation.specs.Lying.{Lies}
use Rattle.cl_translation.specs.Statements.{returning, InOrder}

-- ---- the code of one function

-- where the code of the function with this number ends: where the next begins, or where all code ends
abbrev pub code_end : PlainProgram → ℕ → ℕ
code_end p number = or_length (slice_get p.functions (suc number))
  where
    or_length : Option PlainFunction → ℕ
    or_length None = length p.code
    or_length (Some g) = g.entry

-- whether an instruction reaches only such cells of the frame
abbrev pub reaches_below : ℕ → Instr → Bool
reaches_below size (code.LoadLocal k) = nat_lt k size
reaches_below size (code.StoreLocal k) = nat_lt k size
reaches_below size (code.LoadLocalAt base count) = nat_le (base + count) size
reaches_below size (code.StoreLocalAt base count) = nat_le (base + count) size
reaches_below size (code.Clear base count) = nat_le (base + count) size
reaches_below size _ = true

-- the frame has all cells that the code of a function reaches, and its stack is as high as any of its heights
pub record HasRoom (p : PlainProgram) (number : ℕ) (g : PlainFunction) : Type 0 where
  pub cells : (a : ℕ) (i : Instr) → g.entry ≤ a → a < code_end p number → slice_get p.code a ≡ Some i → reaches_below (frame_size g) i ≡ true
  pub stack : (a height : ℕ) → g.entry ≤ a → a < code_end p number → slice_get p.heights a ≡ Some height → height ≤ g.stack

-- 0 is returned, and the code of the function ends: so ends one that comes to its end, and so is one that no process can enter
pub record ReturnsZero (p : PlainProgram) (number a : ℕ) : Type 0 where
  pub zero : Lies p 0 a (code.PushInt (pos 0))
  pub back : Lies p 1 (suc a) code.Return
  pub ends : code_end p number ≡ suc (suc a)

-- The code of a function: its statements behind its parameters, and 0 for what comes to its end. One whose frame has more cells than a process may
-- have can't be entered.
pub data FunctionIs (p : PlainProgram) (around : Around) (globals : List Entry) (number : ℕ) (f : Function) (g : PlainFunction) : Type 0 where
  Whole : (behind : List Entry) (end : ℕ) →
      g.cells ≡ frame_cells around.length_of f →
      InOrder p around globals (returning f.result) [] (parameter_entries f.parameters) behind end end (out-Block f.body).statements g.entry end →
      ReturnsZero p number end →
      FunctionIs p around globals number f g
  TooLarge : MOST_CELLS < g.cells →
      MOST_CELLS < frame_cells around.length_of f →
      ReturnsZero p number g.entry →
      FunctionIs p around globals number f g

-- ---- the code of a text

-- Each function has its code, behind globals that lie in their cells; or there are more globals than a process may have cells, and no function can be
-- entered.
pub data CodeIs (xs : List Item) (p : PlainProgram) : Type 0 where
  Entered : (globals : List Entry) →
      ScopeIs globals (outer xs) →
      p.globals ≡ flat globals (outer xs) →
      length p.globals ≡ cells_of_globals xs →
      ((number : ℕ) (f : Function) (g : PlainFunction) → slice_get (functions_of xs) number ≡ Some f → slice_get p.functions number ≡ Some g → FunctionIs p (around_in xs) globals number f g) →
      CodeIs xs p
  NeverEntered : MOST_CELLS < length p.globals →
      MOST_CELLS < cells_of_globals xs →
      ((number : ℕ) (g : PlainFunction) → slice_get p.functions number ≡ Some g → ReturnsZero p number g.entry) →
      CodeIs xs p

-- where process 0 begins
pub record BeginsIn (xs : List Item) (p : PlainProgram) : Type 0 where
  pub function : Function
  pub named : function_in (functions_of xs) main_name ≡ Some function
  pub alone : function.parameters ≡ []
  pub number : p.main ≡ number_of main_name (functions_of xs)

-- The program has the operations and functions of the text, in their order, each with its code and room for it; there is a height for each
-- instruction; and process 0 begins at `real_main`.
pub record IsCodeOf (xs : List Item) (p : PlainProgram) : Type 0 where
  pub text : HasTextOf xs p
  pub heights : length p.heights ≡ length p.code
  pub count : length p.functions ≡ length (functions_of xs)
  pub room : (number : ℕ) (g : PlainFunction) → slice_get p.functions number ≡ Some g → HasRoom p number g
  pub begins : BeginsIn xs p
  pub code : CodeIs xs p
