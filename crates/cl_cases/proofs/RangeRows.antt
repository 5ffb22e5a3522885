-- Values at the borders of their types, and one beyond each, by computing.
use Rattle.std.proofs.Common.{◌≡◌, [], ◌∷◌, refl}
use Rattle.std.specs.Prelude.{true, false, codes, pos, negsuc, Ok, Err}
use Rattle.cl_value.specs.declared.process.Trap.TheVariants.{Overflow}
use Rattle.cl_value.specs.declared.value.Value.TheVariants.{Int, Long, Char, Text}
use Rattle.cl_ast.specs.declared.tree.Constant.TheVariants as constants
use Rattle.cl_ast.specs.declared.tree.Operator.TheVariants as operators
use Rattle.cl_ast.specs.declared.tree.TypeName.TheVariants as types
use Rattle.cl_ast.specs.declared.span.Span.{Span}
use Rattle.cl_ast.specs.declared.statement.Item.{Item}
use Rattle.cl_ast.specs.declared.statement.Item.TheVariants as items
use Rattle.cl_model.specs.Numbers.{int_or_trap, long_or_trap, negated}
use Rattle.cl_value.specs.Ranges.{is_within}
use Rattle.cl_meaning.specs.Operators.{converted, operated}
use Rattle.cl_meaning.specs.Outer.{initial, outer}
use Rattle.cl_cases.specs.Literals.{constant_fits, literals_fit}

-- ---- an `int`

greatest_int : int_or_trap (pos 2147483647) ≡ Ok (Int (pos 2147483647))
greatest_int = refl

above_int : operated operators.Add (Int (pos 2147483647)) (Int (pos 1)) ≡ Err Overflow
above_int = refl

least_int : operated operators.Subtract (Int (negsuc 2147483646)) (Int (pos 1)) ≡ Ok (Int (negsuc 2147483647))
least_int = refl

below_int : operated operators.Subtract (Int (negsuc 2147483647)) (Int (pos 1)) ≡ Err Overflow
below_int = refl

-- the least one has no negative, and it isn't divided by -1
not_negated : negated (Int (negsuc 2147483647)) ≡ Err Overflow
not_negated = refl

not_divided : operated operators.Divide (Int (negsuc 2147483647)) (Int (negsuc 0)) ≡ Err Overflow
not_divided = refl

not_stored : converted types.Int (Long (pos 2147483648)) ≡ Err Overflow
not_stored = refl

-- ---- a `long`

greatest_long : operated operators.Add (Long (pos 9223372036854775806)) (Int (pos 1)) ≡ Ok (Long (pos 9223372036854775807))
greatest_long = refl

above_long : operated operators.Add (Long (pos 9223372036854775807)) (Int (pos 1)) ≡ Err Overflow
above_long = refl

least_long : long_or_trap (negsuc 9223372036854775807) ≡ Ok (Long (negsuc 9223372036854775807))
least_long = refl

below_long : operated operators.Subtract (Long (negsuc 9223372036854775807)) (Int (pos 1)) ≡ Err Overflow
below_long = refl

-- a conversion to `long` tests nothing: a text would go on with any number, so a variable must have none
text_as_long : converted types.Long (Text 9223372036854775808) ≡ Ok (Long (pos 9223372036854775808))
text_as_long = refl

text_beyond : is_within 63 (pos 9223372036854775808) ≡ false
text_beyond = refl

-- ---- a `char`

greatest_char : converted types.Char (Int (pos 255)) ≡ Ok (Char 255)
greatest_char = refl

above_char : converted types.Char (Int (pos 256)) ≡ Ok (Char 0)
above_char = refl

below_char : converted types.Char (Int (negsuc 0)) ≡ Ok (Char 255)
below_char = refl

-- ---- literals

greatest_int_literal : constant_fits (constants.Int (pos 2147483647)) ≡ true
greatest_int_literal = refl

no_int_literal : constant_fits (constants.Int (pos 2147483648)) ≡ false
no_int_literal = refl

greatest_long_literal : constant_fits (constants.Long (pos 9223372036854775807)) ≡ true
greatest_long_literal = refl

no_long_literal : constant_fits (constants.Long (pos 9223372036854775808)) ≡ false
no_long_literal = refl

-- a sign stands before a literal, and never in one
no_signed_literal : constant_fits (constants.Int (negsuc 0)) ≡ false
no_signed_literal = refl

no_character : constant_fits (constants.Character 256) ≡ false
no_character = refl

-- an initial value isn't tested by the meaning: where it is beyond its type the text has a fault
untested_initial : initial types.Int (pos 2147483648) ≡ Int (pos 2147483648)
untested_initial = refl

-- a tree with a literal beyond its type, which no source has: it begins with a constant that is beyond
abbrev at : Span
at = record { start = 0; end = 0 }

abbrev beyond : Item
beyond = items.Define (record { name = record { bytes = codes "C"; span = at }; is_negative = false; literal = record { value = constants.Int (pos 2147483648); span = at }; span = at })

unfit : literals_fit (beyond ∷ []) ≡ false
unfit = refl

begins_beyond : outer (beyond ∷ []) ≡ record { name = codes "C"; of = types.Int; values = Int (pos 2147483648) ∷ [] } ∷ []
begins_beyond = refl
