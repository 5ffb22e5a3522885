-- Constants: literals with a sign, and where they may stand. (Sizes: this project.)
use Rattle.std.specs.Prelude.{ℤ, pos, negsuc, neg_ℤ, int_lt, Bool, true, false, not, ◌&&◌, if◌then◌else◌}
use Rattle.cl_ast.specs.declared.tree.TypeName.{TypeName}
use Rattle.cl_ast.specs.declared.tree.TypeName.TheVariants as types
use Rattle.cl_ast.specs.declared.tree.Constant.{Constant}
use Rattle.cl_ast.specs.declared.tree.Constant.TheVariants as constants
use Rattle.cl_types.specs.declared.declared.Number.{Number}
use Rattle.cl_types.specs.Types.{literal_type}
use Rattle.cl_ground.specs.declared.limits.TheConstants.{MOST_SIZE}

-- the number that a literal stands for; a character stands for its byte
abbrev pub literal_value : Constant → ℤ
literal_value (constants.Int value) = value
literal_value (constants.Long value) = value
literal_value (constants.Character byte) = pos byte

-- a literal by itself
abbrev pub plain_number : Constant → Number
plain_number literal = record { is_negative = false; literal = literal }

-- one more minus
abbrev pub negated : Number → Number
negated n = record { is_negative = not n.is_negative; literal = n.literal }

abbrev pub number_value : Number → ℤ
number_value n = if n.is_negative then neg_ℤ (literal_value n.literal) else literal_value n.literal

abbrev pub number_type : Number → TypeName
number_type n = literal_type n.literal

-- whether a value lies from `low` to `high`
abbrev pub is_between : ℤ → ℤ → ℤ → Bool
is_between low high v = not (int_lt v low) && not (int_lt high v)

-- an array has 1 to 65,536 elements
abbrev pub is_size : Number → Bool
is_size n = is_between (pos 1) (pos MOST_SIZE) (number_value n)

-- a variable of this type can have it as its initial value; a `char` takes each value modulo 256
abbrev pub fits_type : TypeName → Number → Bool
fits_type types.Int n = is_between (negsuc 2147483647) (pos 2147483647) (number_value n)
fits_type types.Long n = true
fits_type types.Char n = true
