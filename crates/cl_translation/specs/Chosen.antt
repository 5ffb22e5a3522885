-- Which instructions stand for literals, operators, conversions and places. (ISO/IEC 9899:1999, 6.3.1 and 6.5; the instructions: this project.)
use Rattle.std.specs.Prelude.{ℕ, Option, Some, None, pos}
use Rattle.cl_value.specs.declared.value.Value.{Value}
use Rattle.cl_value.specs.declared.value.Value.TheVariants as values
use Rattle.cl_ast.specs.declared.tree.TypeName.{TypeName}
use Rattle.cl_ast.specs.declared.tree.TypeName.TheVariants as types
use Rattle.cl_ast.specs.declared.tree.Operator.{Operator}
use Rattle.cl_ast.specs.declared.tree.Operator.TheVariants as operators
use Rattle.cl_code.specs.Machine.{Where, Local, Global}
use Rattle.cl_code.specs.declared.instr.Instr.{Instr}
use Rattle.cl_code.specs.declared.instr.Instr.TheVariants as code

-- pushes the number of a literal or of a constant
abbrev pub push : Value → Instr
push (values.Int n) = code.PushInt n
push (values.Long n) = code.PushLong n
push (values.Char n) = code.PushInt (pos n)
push (values.Text n) = code.PushInt (pos n)

-- pushes a variable's number
abbrev pub load : Where → ℕ → Instr
load Local k = code.LoadLocal k
load Global k = code.LoadGlobal k

-- takes an index and pushes the number of an element
abbrev pub load_at : Where → ℕ → ℕ → Instr
load_at Local base size = code.LoadLocalAt base size
load_at Global base size = code.LoadGlobalAt base size

-- stores a number in a variable
abbrev pub store : Where → ℕ → Instr
store Local k = code.StoreLocal k
store Global k = code.StoreGlobal k

-- takes an index and a number, and stores the number in an element
abbrev pub store_at : Where → ℕ → ℕ → Instr
store_at Local base size = code.StoreLocalAt base size
store_at Global base size = code.StoreGlobalAt base size

-- `long` where one of two operands is, else `int`
abbrev pub common : TypeName → TypeName → TypeName
common types.Long b = types.Long
common types.Int types.Long = types.Long
common types.Char types.Long = types.Long
common _ _ = types.Int

-- the second for `long`, else the first
abbrev pub by_type : TypeName → Instr → Instr → Instr
by_type types.Long int long = long
by_type _ int long = int

-- the instruction of an operator, by the common type of its operands; none for `&&` and `||`
abbrev pub operator_code : Operator → TypeName → Option Instr
operator_code operators.Add t = Some (by_type t code.AddInt code.AddLong)
operator_code operators.Subtract t = Some (by_type t code.SubInt code.SubLong)
operator_code operators.Multiply t = Some (by_type t code.MulInt code.MulLong)
operator_code operators.Divide t = Some (by_type t code.DivInt code.DivLong)
operator_code operators.Remainder t = Some (by_type t code.RemInt code.RemLong)
operator_code operators.Equal t = Some code.Equal
operator_code operators.NotEqual t = Some code.NotEqual
operator_code operators.Less t = Some code.Less
operator_code operators.LessEqual t = Some code.LessEqual
operator_code operators.Greater t = Some code.Greater
operator_code operators.GreaterEqual t = Some code.GreaterEqual
operator_code operators.And t = None
operator_code operators.Or t = None

-- the type of what it gives, by the common type of its operands
abbrev pub operator_type : Operator → TypeName → TypeName
operator_type operators.Add t = t
operator_type operators.Subtract t = t
operator_type operators.Multiply t = t
operator_type operators.Divide t = t
operator_type operators.Remainder t = t
operator_type _ t = types.Int

-- the comparison that holds where this one doesn't; none where it is no comparison
abbrev pub opposite : Operator → Option Instr
opposite operators.Equal = Some code.NotEqual
opposite operators.NotEqual = Some code.Equal
opposite operators.Less = Some code.GreaterEqual
opposite operators.LessEqual = Some code.Greater
opposite operators.Greater = Some code.LessEqual
opposite operators.GreaterEqual = Some code.Less
opposite _ = None

-- from a type to another: nothing where each number of the one is one of the other
abbrev pub conversion : TypeName → TypeName → Option Instr
conversion types.Long types.Int = Some code.Narrow
conversion types.Int types.Char = Some code.ToChar
conversion types.Long types.Char = Some code.ToChar
conversion _ _ = None
