-- What operators, conversions and literals give lies within its type.
use Rattle.std.proofs.Common.{◌≡◌, subst, refl, ℕ, Bool, true, false, arith}
use Rattle.std.specs.Prelude.{if◌then◌else◌, nat_lt, ◌-◌, ◌%◌, ◌^◌, ℤ, pos, negsuc, neg_ℤ, Ok, Err}
use Rattle.cl_value.specs.declared.process.Trap.TheVariants.{Overflow, DivideByZero}
use Rattle.cl_value.specs.declared.value.Value.{Value}
use Rattle.cl_value.specs.declared.value.Value.TheVariants.{Int, Long, Char, Text}
use Rattle.cl_ast.specs.declared.tree.Constant.{Constant}
use Rattle.cl_ast.specs.declared.tree.Constant.TheVariants as constants
use Rattle.cl_ast.specs.declared.tree.TypeName.{TypeName}
use Rattle.cl_ast.specs.declared.tree.TypeName.TheVariants as types
use Rattle.cl_ast.specs.declared.tree.Operator.{Operator}
use Rattle.cl_ast.specs.declared.tree.Operator.TheVariants as operators
use Rattle.cl_model.specs.Doing.{Checked}
use Rattle.cl_model.specs.Numbers.{number, truth, is_zero, int_or_trap, long_or_trap, in_common, byte_of, and_then, quotient, negated}
use Rattle.cl_value.specs.Ranges.{is_within, IsWithin, IsNumberWithin}
use Rattle.cl_meaning.specs.Operators.{literal, zero_of, converted, operated}
use Rattle.cl_cases.specs.Literals.{is_natural_within, constant_fits}
use Rattle.cl_cases.specs.Ranges.{OperatorsStayWithin}

-- ---- what fits

-- a number is a value
pub within_of : (v : Value) → IsNumberWithin v → IsWithin v
within_of (Int n) h = h
within_of (Long n) h = h
within_of (Char n) h = h
within_of (Text n) h = absurd h

int_traps : (n : ℤ) (b : Bool) (v : Value) → is_within 31 n ≡ b → (if b then Ok (Int n) else Err Overflow) ≡ Ok v → IsNumberWithin v
int_traps n true v is h = let same : Int n ≡ v = cc in subst IsNumberWithin same is
int_traps n false v is h = absurd cc

pub int_within : (n : ℤ) (v : Value) → int_or_trap n ≡ Ok v → IsNumberWithin v
int_within n v h = int_traps n (is_within 31 n) v refl h

long_traps : (n : ℤ) (b : Bool) (v : Value) → is_within 63 n ≡ b → (if b then Ok (Long n) else Err Overflow) ≡ Ok v → IsNumberWithin v
long_traps n true v is h = let same : Long n ≡ v = cc in subst IsNumberWithin same is
long_traps n false v is h = absurd cc

long_within : (n : ℤ) (v : Value) → long_or_trap n ≡ Ok v → IsNumberWithin v
long_within n v h = long_traps n (is_within 63 n) v refl h

common_within : (a b : Value) (n : ℤ) (v : Value) → in_common a b n ≡ Ok v → IsNumberWithin v
common_within (Long a) b n v h = long_within n v h
common_within (Int a) (Long b) n v h = long_within n v h
common_within (Int a) (Int b) n v h = int_within n v h
common_within (Int a) (Char b) n v h = int_within n v h
common_within (Int a) (Text b) n v h = int_within n v h
common_within (Char a) (Long b) n v h = long_within n v h
common_within (Char a) (Int b) n v h = int_within n v h
common_within (Char a) (Char b) n v h = int_within n v h
common_within (Char a) (Text b) n v h = int_within n v h
common_within (Text a) (Long b) n v h = long_within n v h
common_within (Text a) (Int b) n v h = int_within n v h
common_within (Text a) (Char b) n v h = int_within n v h
common_within (Text a) (Text b) n v h = int_within n v h

-- ---- conversion

pub int_is_long : (n : ℕ) → nat_lt n (2 ^ 31) ≡ true → nat_lt n (2 ^ 63) ≡ true
int_is_long n h = grind (arith, h)

pub char_is_int : (n : ℕ) → nat_lt n 256 ≡ true → nat_lt n (2 ^ 31) ≡ true
char_is_int n h = grind (arith, h)

char_is_long : (n : ℕ) → nat_lt n 256 ≡ true → nat_lt n (2 ^ 63) ≡ true
char_is_long n h = grind (arith, h)

pub within_long : (z : ℤ) → is_within 31 z ≡ true → is_within 63 z ≡ true
within_long (pos n) h = int_is_long n h
within_long (negsuc n) h = int_is_long n h

number_within : (v : Value) → IsNumberWithin v → is_within 63 (number v) ≡ true
number_within (Int n) h = within_long n h
number_within (Long n) h = h
number_within (Char n) h = char_is_long n h
number_within (Text n) h = absurd h

byte_small : (m : ℕ) → nat_lt (m % 256) 256 ≡ true
byte_small m = grind arith

byte_back : (m : ℕ) → nat_lt (255 - m) 256 ≡ true
byte_back m = grind arith

pub byte_within : (z : ℤ) → nat_lt (byte_of z) 256 ≡ true
byte_within (pos n) = byte_small n
byte_within (negsuc n) = byte_back (n % 256)

pub converted_within : (of : TypeName) (a v : Value) → IsNumberWithin a → converted of a ≡ Ok v → IsNumberWithin v
converted_within types.Int a v w h = int_within (number a) v h
converted_within types.Long a v w h = let same : Long (number a) ≡ v = cc in subst IsNumberWithin same (number_within a w)
converted_within types.Char a v w h = let same : Char (byte_of (number a)) ≡ v = cc in subst IsNumberWithin same (byte_within (number a))

pub zero_within : (of : TypeName) → IsNumberWithin (zero_of of)
zero_within types.Int = refl
zero_within types.Long = refl
zero_within types.Char = refl

-- ---- operators

pub truth_within : (b : Bool) → IsNumberWithin (truth b)
truth_within true = refl
truth_within false = refl

quotient_within : (a b : Value) (n : ℤ) (zero : Bool) (v : Value) → (if zero then Err DivideByZero else in_common a b n) ≡ Ok v → IsNumberWithin v
quotient_within a b n true v h = absurd cc
quotient_within a b n false v h = common_within a b n v h

remainder_within : (a b : Value) (n : ℤ) (q : Checked Value) (v : Value) → and_then q (λ w. in_common a b n) ≡ Ok v → IsNumberWithin v
remainder_within a b n (Ok w) v h = common_within a b n v h
remainder_within a b n (Err t) v h = absurd cc

compared_within : (b : Bool) (v : Value) (c : Checked Value) → c ≡ Ok (truth b) → c ≡ Ok v → IsNumberWithin v
compared_within b v c is h = let same : truth b ≡ v = cc in subst IsNumberWithin same (truth_within b)

pub operated_within : (operator : Operator) (a b v : Value) → IsNumberWithin b → operated operator a b ≡ Ok v → IsNumberWithin v
operated_within operators.Add a b v w h = common_within a b _ v h
operated_within operators.Subtract a b v w h = common_within a b _ v h
operated_within operators.Multiply a b v w h = common_within a b _ v h
operated_within operators.Divide a b v w h = quotient_within a b _ (is_zero b) v h
operated_within operators.Remainder a b v w h = remainder_within a b _ (quotient a b) v h
operated_within operators.Equal a b v w h = compared_within _ v _ refl h
operated_within operators.NotEqual a b v w h = compared_within _ v _ refl h
operated_within operators.Less a b v w h = compared_within _ v _ refl h
operated_within operators.LessEqual a b v w h = compared_within _ v _ refl h
operated_within operators.Greater a b v w h = compared_within _ v _ refl h
operated_within operators.GreaterEqual a b v w h = compared_within _ v _ refl h
operated_within operators.And a b v w h = let same : b ≡ v = cc in subst IsNumberWithin same w
operated_within operators.Or a b v w h = let same : b ≡ v = cc in subst IsNumberWithin same w

pub negated_within : (a v : Value) → negated a ≡ Ok v → IsNumberWithin v
negated_within a v h = common_within a a (neg_ℤ (number a)) v h

-- ---- literals

natural_within : (bits : ℕ) (z : ℤ) → is_natural_within bits z ≡ true → is_within bits z ≡ true
natural_within bits (pos n) h = h
natural_within bits (negsuc n) h = absurd cc

pub literal_within : (c : Constant) → constant_fits c ≡ true → IsNumberWithin (literal c)
literal_within (constants.Int n) h = natural_within 31 n h
literal_within (constants.Long n) h = natural_within 63 n h
literal_within (constants.Character byte) h = char_is_int byte h

pub operators_stay_within : OperatorsStayWithin
operators_stay_within = (literal_within, operated_within, negated_within, converted_within)
