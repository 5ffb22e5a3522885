-- Arithmetic of the machine on numbers of 64 bits. (ISO/IEC 9899:1999, 6.5.3 to 6.5.9; where a result doesn't fit C leaves it open: the traps are
-- this project's.)
use Rattle.std.specs.Prelude.{ℕ, ◌-◌, ◌^◌, Bool, ◌&&◌, not, if◌then◌else◌, ℤ, pos, negsuc, int_div, int_rem, int_lt, Ok, Err, ◌≡◌, true}
use Rattle.std.specs.Ordering.{int_eq}
use Rattle.cl_value.specs.declared.process.Trap.TheVariants.{Overflow, DivideByZero}
use Rattle.cl_model.specs.Doing.{Checked}
use Rattle.cl_model.specs.Numbers.{number, and_then, quotient, remainder}
use Rattle.cl_value.specs.declared.value.Value.{Value}
use Rattle.cl_value.specs.declared.value.Value.TheVariants.{Int, Long}
use Rattle.cl_value.specs.Ranges.{is_within}

-- whether it is 0
abbrev pub is_zero : ℤ → Bool
is_zero n = int_eq n (pos 0)

-- 1 or 0
abbrev pub truth : Bool → ℤ
truth test = if test then pos 1 else pos 0

-- a result that lies from -2 ^ bits to 2 ^ bits - 1
abbrev pub fitting : ℕ → ℤ → Checked ℤ
fitting bits n = if is_within bits n then Ok n else Err Overflow

-- cut toward zero
abbrev pub divided : ℕ → ℤ → ℤ → Checked ℤ
divided bits x y = if is_zero y then Err DivideByZero else fitting bits (int_div x y)

-- whether it is the least number of the type by -1, whose quotient doesn't fit
abbrev pub is_least_by_minus_one : ℕ → ℤ → ℤ → Bool
is_least_by_minus_one bits x y = int_eq x (negsuc (2 ^ bits - 1)) && int_eq y (negsuc 0)

-- of the sign of x
abbrev pub remaining : ℕ → ℤ → ℤ → Checked ℤ
remaining bits x y =
    if is_zero y then Err DivideByZero
    else (if is_least_by_minus_one bits x y then Err Overflow else fitting bits (int_rem x y))

-- whether the first isn't greater than the second
abbrev pub is_at_most : ℤ → ℤ → Bool
is_at_most x y = not (int_lt y x)

-- ---- beside the arithmetic of values

-- the bits of the type that two operands have in common: `long` where one of them is, else `int`
abbrev pub bits_of : Value → Value → ℕ
bits_of (Long a) b = 63
bits_of a (Long b) = 63
bits_of a b = 31

-- a number in that type
abbrev pub in_type : Value → Value → ℤ → Value
in_type (Long a) b n = Long n
in_type a (Long b) n = Long n
in_type a b n = Int n

-- what the machine gives of the numbers of two operands, as a value of their type
abbrev pub valued : Value → Value → Checked ℤ → Checked Value
valued a b given = and_then given (λ n. Ok (in_type a b n))

-- the machine's quotient is that of values
abbrev pub QuotientsAgree : Type 0
QuotientsAgree = (a b : Value) → quotient a b ≡ valued a b (divided (bits_of a b) (number a) (number b))

-- and so is its remainder, where the first operand is within the type: there the quotient of values traps for the least number by -1 alone
abbrev pub RemaindersAgree : Type 0
RemaindersAgree = (a b : Value) → is_within (bits_of a b) (number a) ≡ true → remainder a b ≡ valued a b (remaining (bits_of a b) (number a) (number b))
