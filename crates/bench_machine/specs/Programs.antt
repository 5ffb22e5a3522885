-- The programs that are measured. (This project.)
use Rattle.std.specs.Prelude.{ℕ, ℤ, List, [], ◌∷◌, Option, Some, None}
use Rattle.cl_value.specs.declared.value.FieldType.TheVariants as types
use Rattle.cl_code.specs.Plain.{PlainFunction, PlainProgram}
use Rattle.cl_code.specs.declared.instr.Instr.{Instr}

-- the function at which process 0 begins, with so many cells
abbrev pub first : ℕ → PlainFunction
first cells = record { name = []; entry = 0; parameters = []; gives = Some types.Int; cells = cells; temporaries = 0; stack = 4 }

-- a function of two numbers with this entry
abbrev pub second : ℕ → PlainFunction
second entry = record { name = []; entry = entry; parameters = types.Int ∷ types.Int ∷ []; gives = Some types.Int; cells = 2; temporaries = 0; stack = 4 }

-- the second one stands behind the first, if there is one
abbrev pub functions : ℕ → Option ℕ → List PlainFunction
functions cells None = first cells ∷ []
functions cells (Some entry) = first cells ∷ second entry ∷ []

-- this code, whose one global is the number of turns
abbrev pub measured : List Instr → List ℕ → ℕ → Option ℕ → ℤ → PlainProgram
measured code heights cells entry turns =
    record {
      code = code;
      heights = heights;
      functions = functions cells entry;
      main = 0;
      globals = turns ∷ [];
      texts = [];
      formats = [];
      sites = [];
      calls = [];
      sets = [];
      classes = [];
    }
