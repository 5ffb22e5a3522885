-- Values of a type, and values of a constant. (ISO/IEC 9899:1999, 6.2.5; there are three types here: this project.)
use Rattle.std.specs.Prelude.{◌≡◌, Option, Some, None}
use Rattle.cl_value.specs.declared.value.Value.{Value}
use Rattle.cl_value.specs.Matching.{type_of}
use Rattle.cl_ast.specs.declared.tree.TypeName.{TypeName}
use Rattle.cl_ast.specs.declared.tree.Expr.{Expr}
use Rattle.cl_model.specs.Numbers.{number}
use Rattle.cl_meaning.specs.Operators.{field_type}
use Rattle.cl_types.specs.declared.declared.Number.{Number}
use Rattle.cl_types.specs.Numbers.{number_type, number_value}
use Rattle.cl_types.specs.Declarations.{Known}
use Rattle.cl_types.specs.Expressions.{judged, constant_of}

-- a value of this type
abbrev pub IsOf : TypeName → Value → Type 0
IsOf t v = type_of v ≡ field_type t

-- of the type that was found, if one was
abbrev pub IsOfFound : Option TypeName → Value → Type 0
IsOfFound None v = Unit {0}
IsOfFound (Some t) v = IsOf t v

-- the value of a constant: the number that it spells, of its type
abbrev pub IsNumber : Number → Value → Type 0
IsNumber n v = IsOf (number_type n) v × (number v ≡ number_value n)

-- where it is a constant
abbrev pub IsFoundNumber : Option Number → Value → Type 0
IsFoundNumber None v = Unit {0}
IsFoundNumber (Some n) v = IsNumber n v

-- the value of an expression where this is known: of the type that is judged of it, and that of the constant that it is, if it is one
abbrev pub ValueIs : Expr → Known → Value → Type 0
ValueIs x known v = IsOfFound (judged x known).type v × IsFoundNumber (constant_of x known) v
