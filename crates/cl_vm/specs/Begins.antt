-- An engine before its process begins. (This project.)
use Rattle.std.specs.Prelude.{max, ◌≡◌, ℕ, ◌+◌, ◌*◌, ◌≤◌, List, [], ◌∷◌, length, slice_get, vec_capacity, Option, Some, None, Ok, Err}
use Rattle.cl_value.specs.declared.value.Value.{Value}
use Rattle.cl_model.specs.Doing.{Checked}
use Rattle.cl_code.specs.Plain.{PlainFunction, PlainProgram}
use Rattle.cl_vm.specs.declared.engine.Engine.{Engine}
use Rattle.cl_vm.specs.declared.starting.Progress.{Progress}
use Rattle.cl_vm.specs.declared.starting.Progress.TheVariants as reached
use Rattle.cl_ground.specs.declared.limits.TheConstants.{MOST_ACTIVE, MOST_CELLS, MOST_PRINTED}

-- how many cells a function claims that may be there
abbrev pub cells_or_none : Option PlainFunction → ℕ
cells_or_none None = 0
cells_or_none (Some f) = f.cells

-- the most numbers and temporaries that a function has
pub record AreMost (p : PlainProgram) (highest most : ℕ) : Type 0 where
  pub stacks : (k : ℕ) (f : PlainFunction) → slice_get p.functions k ≡ Some f → f.stack ≤ highest
  pub temporaries : (k : ℕ) (f : PlainFunction) → slice_get p.functions k ≡ Some f → f.temporaries ≤ most

-- an engine with room for all that the program needs, which has done nothing
pub record IsFresh (p : PlainProgram) (steps depth : ℕ) (e : Engine) : Type 0 where
  pub highest : ℕ
  pub most : ℕ
  pub are_most : AreMost p highest most
  pub globals : length p.globals ≤ MOST_CELLS → e.memory.globals ≡ p.globals
  pub few : length e.memory.globals ≤ MOST_CELLS
  pub frame : e.memory.frame ≡ []
  pub stack : e.memory.stack ≡ []
  pub frames : e.memory.frames ≡ []
  pub space : e.memory.space ≡ MOST_ACTIVE * highest
  pub cell_room : e.memory.cell_room + length e.memory.globals ≡ MOST_CELLS + MOST_ACTIVE * most
  pub frame_room : e.memory.frame_room ≡ 255
  pub ticks : e.ticks ≡ steps
  pub depth_is : e.depth ≡ depth
  pub output : e.output.items ≡ []
  pub output_room : MOST_PRINTED ≤ vec_capacity e.output

-- the highest stack, and the most temporaries
abbrev pub highest_of : List PlainFunction → ℕ
highest_of [] = 0
highest_of (f ∷ fs) = max f.stack (highest_of fs)

-- the most temporaries of these functions
abbrev pub most_of : List PlainFunction → ℕ
most_of [] = 0
most_of (f ∷ fs) = max f.temporaries (most_of fs)

-- what a result comes to as a value
abbrev pub progress_of : Checked Value → Progress
progress_of (Ok v) = reached.Finished v
progress_of (Err t) = reached.Trapped t
