-- Which operand makes a result a `long`. (ISO/IEC 9899:1999, 6.3.1.8.)
use Rattle.std.specs.Prelude.{Bool, true, false}
use Rattle.cl_value.specs.declared.value.Value.{Value}
use Rattle.cl_value.specs.declared.value.Value.TheVariants.{Long}

-- the value is a `long`
abbrev pub is_long : Value → Bool
is_long (Long n) = true
is_long v = false
