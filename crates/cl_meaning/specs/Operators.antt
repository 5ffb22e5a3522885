-- Literals, conversion and operators of the language. (ISO/IEC 9899:1999, 6.3.1, 6.4.4 and 6.5.3 to 6.5.14.)
use Rattle.std.specs.Prelude.{not, pos, ◌+ℤ◌, ◌-ℤ◌, ◌*ℤ◌, Ok}
use Rattle.cl_value.specs.declared.value.Value.{Value}
use Rattle.cl_value.specs.declared.value.Value.TheVariants.{Int, Long, Char}
use Rattle.cl_value.specs.declared.value.FieldType.{FieldType}
use Rattle.cl_value.specs.declared.value.FieldType.TheVariants as fields
use Rattle.cl_ast.specs.declared.tree.TypeName.{TypeName}
use Rattle.cl_ast.specs.declared.tree.TypeName.TheVariants as types
use Rattle.cl_ast.specs.declared.tree.Constant.{Constant}
use Rattle.cl_ast.specs.declared.tree.Constant.TheVariants as constants
use Rattle.cl_ast.specs.declared.tree.Operator.{Operator}
use Rattle.cl_ast.specs.declared.tree.Operator.TheVariants as operators
use Rattle.cl_model.specs.Doing.{Checked}
use Rattle.cl_model.specs.Numbers.{number, truth, in_common, as_int, as_long, as_char, quotient, remainder, is_less, is_equal}

-- a character is an `int`
abbrev pub literal : Constant → Value
literal (constants.Int n) = Int n
literal (constants.Long n) = Long n
literal (constants.Character byte) = Int (pos byte)

-- 0 as a value of this type
abbrev pub zero_of : TypeName → Value
zero_of types.Int = Int (pos 0)
zero_of types.Long = Long (pos 0)
zero_of types.Char = Char 0

-- a type of variables as a type of fields of tuples
abbrev pub field_type : TypeName → FieldType
field_type types.Int = fields.Int
field_type types.Long = fields.Long
field_type types.Char = fields.Char

-- the value as one of this type
abbrev pub converted : TypeName → Value → Checked Value
converted types.Int v = as_int v
converted types.Long v = as_long v
converted types.Char v = as_char v

-- an operator on two values; `&&` and `||` don't come here, since they may leave out their second operand
abbrev pub operated : Operator → Value → Value → Checked Value
operated operators.Add a b = in_common a b (number a +ℤ number b)
operated operators.Subtract a b = in_common a b (number a -ℤ number b)
operated operators.Multiply a b = in_common a b (number a *ℤ number b)
operated operators.Divide a b = quotient a b
operated operators.Remainder a b = remainder a b
operated operators.Equal a b = Ok (truth (is_equal a b))
operated operators.NotEqual a b = Ok (truth (not (is_equal a b)))
operated operators.Less a b = Ok (truth (is_less a b))
operated operators.LessEqual a b = Ok (truth (not (is_less b a)))
operated operators.Greater a b = Ok (truth (is_less b a))
operated operators.GreaterEqual a b = Ok (truth (not (is_less a b)))
operated operators.And a b = Ok b
operated operators.Or a b = Ok b
