-- The text of the code of a program: its functions with their instructions. (This project.)
use Rattle.std.specs.Prelude.{ℕ, ℤ, ◌+◌, List, [], ◌∷◌, ◌++◌, codes, length, take, drop}
use Rattle.std.specs.Fmt.{decimal, signed_decimal}
use Rattle.cl_value.specs.Text.{line}
use Rattle.cl_code.specs.Plain.{PlainFunction, PlainProgram}
use Rattle.cl_code.specs.declared.instr.Instr.{Instr}
use Rattle.cl_code.specs.declared.instr.Instr.TheVariants as instrs

-- a signed field of an instruction, behind a blank
abbrev pub signed_field : ℤ → List ℕ
signed_field n = codes " " ++ signed_decimal n

-- a field of an instruction, behind a blank
abbrev pub field : ℕ → List ℕ
field n = codes " " ++ decimal n

-- the name of an instruction
abbrev pub instruction_name : Instr → List ℕ
instruction_name (instrs.PushInt _) = codes "PushInt"
instruction_name (instrs.PushLong _) = codes "PushLong"
instruction_name (instrs.LoadLocal _) = codes "LoadLocal"
instruction_name (instrs.LoadGlobal _) = codes "LoadGlobal"
instruction_name (instrs.StoreLocal _) = codes "StoreLocal"
instruction_name (instrs.StoreGlobal _) = codes "StoreGlobal"
instruction_name (instrs.LoadLocalAt _ _) = codes "LoadLocalAt"
instruction_name (instrs.LoadGlobalAt _ _) = codes "LoadGlobalAt"
instruction_name (instrs.StoreLocalAt _ _) = codes "StoreLocalAt"
instruction_name (instrs.StoreGlobalAt _ _) = codes "StoreGlobalAt"
instruction_name (instrs.CheckIndex _) = codes "CheckIndex"
instruction_name (instrs.Clear _ _) = codes "Clear"
instruction_name instrs.AddInt = codes "AddInt"
instruction_name instrs.SubInt = codes "SubInt"
instruction_name instrs.MulInt = codes "MulInt"
instruction_name instrs.DivInt = codes "DivInt"
instruction_name instrs.RemInt = codes "RemInt"
instruction_name instrs.NegInt = codes "NegInt"
instruction_name instrs.AddLong = codes "AddLong"
instruction_name instrs.SubLong = codes "SubLong"
instruction_name instrs.MulLong = codes "MulLong"
instruction_name instrs.DivLong = codes "DivLong"
instruction_name instrs.RemLong = codes "RemLong"
instruction_name instrs.NegLong = codes "NegLong"
instruction_name instrs.Less = codes "Less"
instruction_name instrs.LessEqual = codes "LessEqual"
instruction_name instrs.Greater = codes "Greater"
instruction_name instrs.GreaterEqual = codes "GreaterEqual"
instruction_name instrs.Equal = codes "Equal"
instruction_name instrs.NotEqual = codes "NotEqual"
instruction_name instrs.Not = codes "Not"
instruction_name instrs.Narrow = codes "Narrow"
instruction_name instrs.ToChar = codes "ToChar"
instruction_name (instrs.Jump _) = codes "Jump"
instruction_name (instrs.JumpZero _) = codes "JumpZero"
instruction_name instrs.Tick = codes "Tick"
instruction_name (instrs.Call _) = codes "Call"
instruction_name instrs.Return = codes "Return"
instruction_name instrs.Pop = codes "Pop"
instruction_name (instrs.Print _) = codes "Print"
instruction_name (instrs.Perform _) = codes "Perform"

-- the fields of an instruction, each behind a blank
abbrev pub instruction_fields : Instr → List ℕ
instruction_fields (instrs.PushInt n) = signed_field n
instruction_fields (instrs.PushLong n) = signed_field n
instruction_fields (instrs.LoadLocal n) = field n
instruction_fields (instrs.LoadGlobal n) = field n
instruction_fields (instrs.StoreLocal n) = field n
instruction_fields (instrs.StoreGlobal n) = field n
instruction_fields (instrs.LoadLocalAt base size) = field base ++ field size
instruction_fields (instrs.LoadGlobalAt base size) = field base ++ field size
instruction_fields (instrs.StoreLocalAt base size) = field base ++ field size
instruction_fields (instrs.StoreGlobalAt base size) = field base ++ field size
instruction_fields (instrs.CheckIndex n) = field n
instruction_fields (instrs.Clear base size) = field base ++ field size
instruction_fields (instrs.Jump n) = field n
instruction_fields (instrs.JumpZero n) = field n
instruction_fields (instrs.Call n) = field n
instruction_fields (instrs.Print n) = field n
instruction_fields (instrs.Perform n) = field n
instruction_fields _ = []

-- an instruction: its name and its fields
abbrev pub instruction_text : Instr → List ℕ
instruction_text i = instruction_name i ++ instruction_fields i

-- the line of an instruction: its address, its name and its fields
abbrev pub instruction_line : ℕ → Instr → List ℕ
instruction_line address i = line (decimal address ++ codes " " ++ instruction_text i)

-- the lines of instructions from an address on
abbrev pub instruction_lines : ℕ → List Instr → List ℕ
instruction_lines address [] = []
instruction_lines address (i ∷ code) = instruction_line address i ++ instruction_lines (address + 1) code

-- where the code of a function ends: at the entry of the next one, or at the end of all code
abbrev pub end_before : List Instr → List PlainFunction → ℕ
end_before code [] = length code
end_before code (next ∷ functions) = next.entry

-- the code of a function, which goes from its entry to this end
abbrev pub code_between : List Instr → ℕ → ℕ → List Instr
code_between code entry end = drop entry (take end code)

-- the first line of a function: its number, its name and its cells
abbrev pub function_line : ℕ → PlainFunction → List ℕ
function_line number f = line (codes "function " ++ decimal number ++ codes " " ++ f.name ++ codes " cells " ++ decimal f.cells)

-- a function, whose code goes up to this end: its first line, and a line for each instruction
abbrev pub function_text : List Instr → ℕ → PlainFunction → ℕ → List ℕ
function_text code number f end = function_line number f ++ instruction_lines f.entry (code_between code f.entry end)

-- functions from a number on
abbrev pub functions_text : List Instr → ℕ → List PlainFunction → List ℕ
functions_text code number [] = []
functions_text code number (f ∷ functions) = function_text code number f (end_before code functions) ++ functions_text code (number + 1) functions

-- the text of the code of a program
abbrev pub listing_text : PlainProgram → List ℕ
listing_text p = functions_text p.code 0 p.functions
