-- Programs as plain data, without room. (This project.)
use Rattle.std.specs.Prelude.{ℕ, List, ℤ, Option, map}
use Rattle.cl_ground.specs.Room.{Room}
use Rattle.cl_value.specs.declared.value.FieldType.{FieldType}
use Rattle.cl_sig.specs.Signatures.{PlainSignature}
use Rattle.cl_sig.specs.Views.{plain_signature}
use Rattle.cl_sig.specs.declared.shape.Class.{Class}
use Rattle.cl_code.specs.declared.instr.Instr.{Instr}
use Rattle.cl_code.specs.declared.function.Function.{Function}
use Rattle.cl_code.specs.declared.parts.ProgramParts.{ProgramParts}

-- a function: its name, where it begins, its parameters and its result, its cells, its temporaries, and its highest stack
pub record PlainFunction : Type 0 where
  pub name : List ℕ
  pub entry : ℕ
  pub parameters : List FieldType
  pub gives : Option FieldType
  pub cells : ℕ
  pub temporaries : ℕ
  pub stack : ℕ

-- a program: its instructions with the height of the stack at each, its functions, globals, texts, formats and operations, and the sets of these with their classes
pub record PlainProgram : Type 0 where
  pub code : List Instr
  pub heights : List ℕ
  pub functions : List PlainFunction
  pub main : ℕ
  pub globals : List ℤ
  pub texts : List (List ℕ)
  pub formats : List (List ℕ)
  pub sites : List PlainSignature
  -- for each site and each of its fields the function of a call
  pub calls : List (List (Option ℕ))
  -- for each site the number of its set
  pub sets : List ℕ
  -- for each set its class
  pub classes : List Class

-- ---- from the values of the program

-- a function without the room of its lists
abbrev pub plain_function : Function → PlainFunction
plain_function f =
    record {
      name = f.name.items;
      entry = f.entry;
      parameters = f.parameters.items;
      gives = f.gives;
      cells = f.cells;
      temporaries = f.temporaries;
      stack = f.stack;
    }

-- lists without their room
abbrev pub plain_lists : {T : Type 0} → Room (Room T) → List (List T)
plain_lists all = map (λ xs. xs.items) all.items

-- a program without the room of its lists
abbrev pub plain_program : ProgramParts → PlainProgram
plain_program p =
    record {
      code = p.code.items;
      heights = p.heights.items;
      functions = map plain_function p.functions.items;
      main = p.main;
      globals = p.globals.items;
      texts = plain_lists p.texts;
      formats = plain_lists p.formats;
      sites = map plain_signature p.sites.items;
      calls = plain_lists p.calls;
      sets = p.sets;
      classes = p.classes.items;
    }
