-- Types of literals and of operators. (ISO/IEC 9899:1999, 6.3.1.1, 6.3.1.8 and 6.5; there are three types here: this project.)
use Rattle.std.specs.Prelude.{Bool, true, false, Option, Some, None, if◌then◌else◌}
use Rattle.cl_ast.specs.declared.tree.TypeName.{TypeName}
use Rattle.cl_ast.specs.declared.tree.TypeName.TheVariants as types
use Rattle.cl_ast.specs.declared.tree.Constant.{Constant}
use Rattle.cl_ast.specs.declared.tree.Constant.TheVariants as constants
use Rattle.cl_ast.specs.declared.tree.Operator.{Operator}
use Rattle.cl_ast.specs.declared.tree.Operator.TheVariants as operators

-- a character literal is an `int`
abbrev pub literal_type : Constant → TypeName
literal_type (constants.Int value) = types.Int
literal_type (constants.Long value) = types.Long
literal_type (constants.Character byte) = types.Int

-- a `char` in arithmetic is an `int`
abbrev pub promoted : TypeName → TypeName
promoted types.Int = types.Int
promoted types.Long = types.Long
promoted types.Char = types.Int

-- one `long` makes all `long`
abbrev pub common : TypeName → TypeName → TypeName
common types.Long b = types.Long
common types.Int b = promoted b
common types.Char b = promoted b

-- whether an operator gives the common type of its operands: `+`, `-`, `*`, `/` or `%`
abbrev pub is_arithmetic : Operator → Bool
is_arithmetic operators.Add = true
is_arithmetic operators.Subtract = true
is_arithmetic operators.Multiply = true
is_arithmetic operators.Divide = true
is_arithmetic operators.Remainder = true
is_arithmetic _ = false

-- where both types are found
abbrev pub common_of : Option TypeName → Option TypeName → Option TypeName
common_of None b = None
common_of (Some a) None = None
common_of (Some a) (Some b) = Some (common a b)

-- what an operator gives; comparisons, `&&` and `||` give an `int` whatever stands beside them
abbrev pub operated : Operator → Option TypeName → Option TypeName → Option TypeName
operated operator a b = if is_arithmetic operator then common_of a b else Some types.Int

-- what a minus gives
abbrev pub negated_type : Option TypeName → Option TypeName
negated_type None = None
negated_type (Some t) = Some (promoted t)
