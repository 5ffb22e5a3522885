-- What operators and conversions give is of the type that is judged of it.
use Rattle.std.proofs.Common.{◌≡◌, ◌∙◌, ap, sym, subst, refl, Bool, true, false, not, Option, Some, None}
use Rattle.std.proofs.Math.IntN.{neg_ℤ-neg_ℤ}
use Rattle.std.specs.Prelude.{ℤ, neg_ℤ, if◌then◌else◌, Ok, Err}
use Rattle.cl_value.specs.declared.process.Trap.TheVariants.{Overflow, DivideByZero}
use Rattle.cl_value.specs.declared.value.Value.{Value}
use Rattle.cl_value.specs.declared.value.Value.TheVariants.{Int, Long, Char, Text}
use Rattle.cl_value.specs.declared.value.FieldType.{FieldType}
use Rattle.cl_value.specs.declared.value.FieldType.TheVariants as fields
use Rattle.cl_value.specs.Matching.{type_of}
use Rattle.cl_ast.specs.declared.tree.TypeName.{TypeName}
use Rattle.cl_ast.specs.declared.tree.TypeName.TheVariants as types
use Rattle.cl_ast.specs.declared.tree.Constant.{Constant}
use Rattle.cl_ast.specs.declared.tree.Constant.TheVariants as constants
use Rattle.cl_ast.specs.declared.tree.Operator.{Operator}
use Rattle.cl_ast.specs.declared.tree.Operator.TheVariants as operators
use Rattle.cl_model.specs.Doing.{Checked}
use Rattle.cl_model.specs.Numbers.{number, truth, is_zero, int_or_trap, long_or_trap, in_common, and_then, quotient, negated}
use Rattle.cl_value.specs.Ranges.{is_within}
use Rattle.cl_meaning.specs.Operators.{literal, field_type, converted, operated}
use Rattle.cl_types.specs.declared.declared.Number.{Number}
use Rattle.cl_types.specs.Numbers.{literal_value, plain_number, number_value, number_type}
use Rattle.cl_types.specs.Numbers as numbers
use Rattle.cl_types.specs.Types.{literal_type, promoted, common, common_of, is_arithmetic, negated_type}
use Rattle.cl_types.specs.Types as judging
use Rattle.cl_typing.specs.Values.{IsOf, IsOfFound, IsNumber}

-- ---- numbers that fit

pub truth_is : (b : Bool) → IsOf types.Int (truth b)
truth_is true = refl
truth_is false = refl

int_given : (n : ℤ) (v : Value) (b : Bool) → (if b then Ok (Int n) else Err Overflow) ≡ Ok v → v ≡ Int n
int_given n v true h = cc
int_given n v false h = absurd cc

long_given : (n : ℤ) (v : Value) (b : Bool) → (if b then Ok (Long n) else Err Overflow) ≡ Ok v → v ≡ Long n
long_given n v true h = cc
long_given n v false h = absurd cc

int_fits : (n : ℤ) (v : Value) → int_or_trap n ≡ Ok v → v ≡ Int n
int_fits n v h = int_given n v (is_within 31 n) h

long_fits : (n : ℤ) (v : Value) → long_or_trap n ≡ Ok v → v ≡ Long n
long_fits n v h = long_given n v (is_within 63 n) h

-- ---- conversions

pub converted_is : (t : TypeName) (v w : Value) → converted t v ≡ Ok w → IsOf t w
converted_is types.Int v w h = ap type_of (int_fits (number v) w h)
converted_is types.Long v w h = let same : Long (number v) ≡ w = cc in sym (ap type_of same)
converted_is types.Char v w h = by w h
  where
    by : (w : Value) → converted types.Char v ≡ Ok w → type_of w ≡ fields.Char
    by (Int n) h = absurd cc
    by (Long n) h = absurd cc
    by (Char n) h = refl
    by (Text n) h = absurd cc

-- ---- the type of two operands

abbrev kind : FieldType → FieldType → FieldType
kind fields.Long b = fields.Long
kind a fields.Long = fields.Long
kind a b = fields.Int

in_kind : (a b : Value) (n : ℤ) (v : Value) → in_common a b n ≡ Ok v → (type_of v ≡ kind (type_of a) (type_of b)) × (number v ≡ n)
in_kind (Long x) b n v h = (ap type_of (long_fits n v h), ap number (long_fits n v h))
in_kind (Int x) (Long y) n v h = (ap type_of (long_fits n v h), ap number (long_fits n v h))
in_kind (Char x) (Long y) n v h = (ap type_of (long_fits n v h), ap number (long_fits n v h))
in_kind (Text x) (Long y) n v h = (ap type_of (long_fits n v h), ap number (long_fits n v h))
in_kind (Int x) (Int y) n v h = (ap type_of (int_fits n v h), ap number (int_fits n v h))
in_kind (Int x) (Char y) n v h = (ap type_of (int_fits n v h), ap number (int_fits n v h))
in_kind (Int x) (Text y) n v h = (ap type_of (int_fits n v h), ap number (int_fits n v h))
in_kind (Char x) (Int y) n v h = (ap type_of (int_fits n v h), ap number (int_fits n v h))
in_kind (Char x) (Char y) n v h = (ap type_of (int_fits n v h), ap number (int_fits n v h))
in_kind (Char x) (Text y) n v h = (ap type_of (int_fits n v h), ap number (int_fits n v h))
in_kind (Text x) (Int y) n v h = (ap type_of (int_fits n v h), ap number (int_fits n v h))
in_kind (Text x) (Char y) n v h = (ap type_of (int_fits n v h), ap number (int_fits n v h))
in_kind (Text x) (Text y) n v h = (ap type_of (int_fits n v h), ap number (int_fits n v h))

common_kind : (s t : TypeName) → kind (field_type s) (field_type t) ≡ field_type (common s t)
common_kind types.Int types.Int = refl
common_kind types.Int types.Long = refl
common_kind types.Int types.Char = refl
common_kind types.Long types.Int = refl
common_kind types.Long types.Long = refl
common_kind types.Long types.Char = refl
common_kind types.Char types.Int = refl
common_kind types.Char types.Long = refl
common_kind types.Char types.Char = refl

common_is : (s t : Option TypeName) (a b : Value) (n : ℤ) (v : Value) → in_common a b n ≡ Ok v → IsOfFound s a → IsOfFound t b → IsOfFound (common_of s t) v
common_is None t a b n v h p q = tt
common_is (Some s) None a b n v h p q = tt
common_is (Some s) (Some t) a b n v h p q =
    (in_kind a b n v h).0 ∙ (ap (λ x. kind x (type_of b)) p ∙ (ap (kind (field_type s)) q ∙ common_kind s t))

quotient_in : (a b : Value) (n : ℤ) (v : Value) (z : Bool) → (if z then Err DivideByZero else in_common a b n) ≡ Ok v → in_common a b n ≡ Ok v
quotient_in a b n v true h = absurd cc
quotient_in a b n v false h = h

remainder_in : (first : Checked Value) (next : Checked Value) (v : Value) → and_then first (λ q. next) ≡ Ok v → next ≡ Ok v
remainder_in (Ok q) next v h = h
remainder_in (Err t) next v h = absurd cc

compared : (b : Bool) (v : Value) (h : Rattle.cl_model.specs.Doing.Checked Value) → h ≡ Ok (truth b) → h ≡ Ok v → IsOf types.Int v
compared b v h is e = let same : truth b ≡ v = cc in subst (IsOf types.Int) same (truth_is b)

-- an operator that looks at both operands
abbrev pub LooksAtBoth : Operator → Type 0
LooksAtBoth operators.And = ⊥
LooksAtBoth operators.Or = ⊥
LooksAtBoth _ = Unit {0}

pub operated_is : (operator : Operator) (s t : Option TypeName) (a b : Value) (v : Value) → LooksAtBoth operator → operated operator a b ≡ Ok v → IsOfFound s a → IsOfFound t b → IsOfFound (judging.operated operator s t) v
operated_is operators.Add s t a b v l h p q = common_is s t a b _ v h p q
operated_is operators.Subtract s t a b v l h p q = common_is s t a b _ v h p q
operated_is operators.Multiply s t a b v l h p q = common_is s t a b _ v h p q
operated_is operators.Divide s t a b v l h p q = common_is s t a b _ v (quotient_in a b _ v (is_zero b) h) p q
operated_is operators.Remainder s t a b v l h p q = common_is s t a b _ v (remainder_in (quotient a b) _ v h) p q
operated_is operators.Equal s t a b v l h p q = compared _ v _ refl h
operated_is operators.NotEqual s t a b v l h p q = compared _ v _ refl h
operated_is operators.Less s t a b v l h p q = compared _ v _ refl h
operated_is operators.LessEqual s t a b v l h p q = compared _ v _ refl h
operated_is operators.Greater s t a b v l h p q = compared _ v _ refl h
operated_is operators.GreaterEqual s t a b v l h p q = compared _ v _ refl h
operated_is operators.And s t a b v l h p q = absurd l
operated_is operators.Or s t a b v l h p q = absurd l

-- ---- a minus

promoted_kind : (t : TypeName) → kind (field_type t) (field_type t) ≡ field_type (promoted t)
promoted_kind types.Int = refl
promoted_kind types.Long = refl
promoted_kind types.Char = refl

pub negated_is : (t : Option TypeName) (v w : Value) → negated v ≡ Ok w → IsOfFound t v → IsOfFound (negated_type t) w
negated_is None v w h p = tt
negated_is (Some t) v w h p = (in_kind v v _ w h).0 ∙ (ap (λ x. kind x x) p ∙ promoted_kind t)

-- ---- constants

pub literal_is : (c : Constant) → IsOf (literal_type c) (literal c)
literal_is (constants.Int n) = refl
literal_is (constants.Long n) = refl
literal_is (constants.Character byte) = refl

pub literal_number : (c : Constant) → IsNumber (plain_number c) (literal c)
literal_number (constants.Int n) = (refl, refl)
literal_number (constants.Long n) = (refl, refl)
literal_number (constants.Character byte) = (refl, refl)

number_kind : (c : Constant) → kind (field_type (literal_type c)) (field_type (literal_type c)) ≡ field_type (literal_type c)
number_kind (constants.Int n) = refl
number_kind (constants.Long n) = refl
number_kind (constants.Character byte) = refl

signs : (minus : Bool) (x : ℤ) → neg_ℤ (if minus then neg_ℤ x else x) ≡ (if not minus then neg_ℤ x else x)
signs true x = neg_ℤ-neg_ℤ x
signs false x = refl

pub negated_number : (n : Number) (v w : Value) → negated v ≡ Ok w → IsNumber n v → IsNumber (numbers.negated n) w
negated_number n v w h p =
    let r = in_kind v v _ w h in
    (r.0 ∙ (ap (λ x. kind x x) p.0 ∙ number_kind n.literal), r.1 ∙ (ap neg_ℤ p.1 ∙ signs n.is_negative (literal_value n.literal)))
