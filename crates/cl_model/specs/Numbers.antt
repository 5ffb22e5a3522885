-- Values as numbers, arithmetic and conversion. (ISO/IEC 9899:1999, 6.3.1 and 6.5.3 to 6.5.9; where a result doesn't fit C leaves it open: the
-- traps are this project's.)
use Rattle.std.specs.Prelude.{ℕ, ◌-◌, ◌%◌, Bool, if◌then◌else◌, ℤ, pos, negsuc, neg_ℤ, int_div, int_rem, int_lt, Ok, Err}
use Rattle.std.specs.Ordering.{int_eq}
use Rattle.cl_value.specs.Ranges.{is_within}
use Rattle.cl_value.specs.declared.process.Trap.TheVariants.{Overflow, DivideByZero}
use Rattle.cl_value.specs.declared.value.Value.{Value}
use Rattle.cl_value.specs.declared.value.Value.TheVariants.{Int, Long, Char, Text}
use Rattle.cl_model.specs.Doing.{Checked}

-- ---- values as numbers

-- a text is never a number; its own is given so that this is a function
abbrev pub number : Value → ℤ
number (Int n) = n
number (Long n) = n
number (Char n) = pos n
number (Text n) = pos n

-- 1 or 0
abbrev pub truth : Bool → Value
truth test = if test then Int (pos 1) else Int (pos 0)

-- whether its number is 0
abbrev pub is_zero : Value → Bool
is_zero v = int_eq (number v) (pos 0)

-- ---- what fits

-- an `int` of this number, if it fits one
abbrev pub int_or_trap : ℤ → Checked Value
int_or_trap n = if is_within 31 n then Ok (Int n) else Err Overflow

-- a `long` of this number, if it fits one
abbrev pub long_or_trap : ℤ → Checked Value
long_or_trap n = if is_within 63 n then Ok (Long n) else Err Overflow

-- a result of two operands: `long` where one of them is, else `int`
abbrev pub in_common : Value → Value → ℤ → Checked Value
in_common (Long a) b n = long_or_trap n
in_common a (Long b) n = long_or_trap n
in_common a b n = int_or_trap n

-- ---- conversion

-- modulo 256
abbrev pub byte_of : ℤ → ℕ
byte_of (pos n) = n % 256
byte_of (negsuc n) = 255 - n % 256

-- the value as an `int`, which traps where it doesn't fit, as a `long`, and as a `char`
abbrev pub as_int : Value → Checked Value
as_int v = int_or_trap (number v)

-- a conversion to `long`, which each value fits
abbrev pub as_long : Value → Checked Value
as_long v = Ok (Long (number v))

-- a conversion to `char`: modulo 256
abbrev pub as_char : Value → Checked Value
as_char v = Ok (Char (byte_of (number v)))

-- ---- operators

-- what is done with a result, unless it trapped
abbrev pub and_then : {A B : Type 0} → Checked A → (A → Checked B) → Checked B
and_then (Ok a) f = f a
and_then (Err t) f = Err t

-- cut toward zero
abbrev pub quotient : Value → Value → Checked Value
quotient a b = if is_zero b then Err DivideByZero else in_common a b (int_div (number a) (number b))

-- of the sign of a; it traps where the quotient does
abbrev pub remainder : Value → Value → Checked Value
remainder a b = and_then (quotient a b) (λ q. in_common a b (int_rem (number a) (number b)))

-- whether the first number is the smaller one
abbrev pub is_less : Value → Value → Bool
is_less a b = int_lt (number a) (number b)

-- whether they have one number
abbrev pub is_equal : Value → Value → Bool
is_equal a b = int_eq (number a) (number b)

-- the negation, in the type of the operand
abbrev pub negated : Value → Checked Value
negated v = in_common v v (neg_ℤ (number v))
