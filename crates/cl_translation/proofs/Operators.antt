-- An operator on values is its instruction on their numbers.
use Rattle.std.proofs.Common.{◌≡◌, ℕ, Bool, true, false, Some, refl, sym, ap, subst, ◌∙◌, inl, inr, ⊎_elim}
use Rattle.std.specs.Prelude.{◌⊎◌, ℤ, not, if◌then◌else◌, Ok, Err, ◌+ℤ◌, ◌-ℤ◌, ◌*ℤ◌, int_div, int_lt}
use Rattle.std.specs.Ordering.{int_eq}
use Rattle.cl_value.specs.declared.process.Trap.TheVariants.{Overflow, DivideByZero}
use Rattle.cl_value.specs.declared.value.Value.{Value}
use Rattle.cl_value.specs.declared.value.Value.TheVariants as values
use Rattle.cl_ast.specs.declared.tree.TypeName.{TypeName}
use Rattle.cl_ast.specs.declared.tree.TypeName.TheVariants as types
use Rattle.cl_ast.specs.declared.tree.Operator.{Operator}
use Rattle.cl_ast.specs.declared.tree.Operator.TheVariants as operators
use Rattle.cl_model.specs.Doing.{Checked}
use Rattle.cl_model.specs.Numbers.{number, truth, int_or_trap, long_or_trap, in_common, remainder, is_less, is_equal, is_zero}
use Rattle.cl_value.specs.Matching.{type_of}
use Rattle.cl_meaning.specs.Operators.{operated, field_type}
use Rattle.cl_code.specs.Plain.{PlainProgram}
use Rattle.cl_code.specs.Arithmetic as arithmetic
use Rattle.cl_code.specs.Arithmetic.{bits_of, in_type}
use Rattle.cl_code.specs.Arithmetic.{fitting, divided, remaining, is_at_most}
use Rattle.cl_code.specs.Machine.{Stack, effect, on_two}
use Rattle.cl_code.specs.declared.instr.Instr.{Instr}
use Rattle.cl_code.specs.declared.instr.Instr.TheVariants as code
use Rattle.cl_translation.specs.Stands.{IsIn}
use Rattle.cl_translation.specs.Chosen.{common, operator_code, operator_type}
use Rattle.cl_value.specs.Ranges.{is_within}

-- a value or a trap, and a number or a trap
abbrev pub Agree : TypeName → Checked Value → Checked ℤ → Type 0
Agree of (Ok v) (Ok n) = IsIn of v × (number v ≡ n)
Agree of (Err t) (Err t') = t ≡ t'
Agree of _ _ = ⊥

-- ---- types

is_long : Value → Bool
is_long (values.Long n) = true
is_long _ = false

is_long_type : TypeName → Bool
is_long_type types.Long = true
is_long_type _ = false

long_of : (v : Value) (t : TypeName) → type_of v ≡ field_type t → is_long v ≡ is_long_type t
unfolding is_long is_long_type
long_of (values.Int n) types.Int h = refl
long_of (values.Int n) types.Long h = absurd cc
long_of (values.Int n) types.Char h = refl
long_of (values.Long n) types.Int h = absurd cc
long_of (values.Long n) types.Long h = refl
long_of (values.Long n) types.Char h = absurd cc
long_of (values.Char n) types.Int h = refl
long_of (values.Char n) types.Long h = absurd cc
long_of (values.Char n) types.Char h = refl
long_of (values.Text n) types.Int h = refl
long_of (values.Text n) types.Long h = absurd cc
long_of (values.Text n) types.Char h = refl

abbrev pub typed_or_trap : TypeName → ℤ → Checked Value
typed_or_trap types.Long n = long_or_trap n
typed_or_trap _ n = int_or_trap n

by_longs : Bool → Bool → ℤ → Checked Value
by_longs a b n = if a then long_or_trap n else (if b then long_or_trap n else int_or_trap n)

in_common_longs : (a b : Value) (n : ℤ) → in_common a b n ≡ by_longs (is_long a) (is_long b) n
unfolding by_longs is_long
in_common_longs (values.Long x) b n = refl
in_common_longs (values.Int x) (values.Long y) n = refl
in_common_longs (values.Int x) (values.Int y) n = refl
in_common_longs (values.Int x) (values.Char y) n = refl
in_common_longs (values.Int x) (values.Text y) n = refl
in_common_longs (values.Char x) (values.Long y) n = refl
in_common_longs (values.Char x) (values.Int y) n = refl
in_common_longs (values.Char x) (values.Char y) n = refl
in_common_longs (values.Char x) (values.Text y) n = refl
in_common_longs (values.Text x) (values.Long y) n = refl
in_common_longs (values.Text x) (values.Int y) n = refl
in_common_longs (values.Text x) (values.Char y) n = refl
in_common_longs (values.Text x) (values.Text y) n = refl

common_longs : (l r : TypeName) (n : ℤ) → typed_or_trap (common l r) n ≡ by_longs (is_long_type l) (is_long_type r) n
unfolding by_longs is_long_type
common_longs types.Int types.Int n = refl
common_longs types.Int types.Long n = refl
common_longs types.Int types.Char n = refl
common_longs types.Long r n = refl
common_longs types.Char types.Int n = refl
common_longs types.Char types.Long n = refl
common_longs types.Char types.Char n = refl

pub in_common_is : (l r : TypeName) (a b : Value) (n : ℤ) → IsIn l a → IsIn r b → in_common a b n ≡ typed_or_trap (common l r) n
in_common_is l r a b n h k = in_common_longs a b n ∙ (ap (λ x. by_longs x (is_long b) n) (long_of a l h.type) ∙ (ap (λ x. by_longs (is_long_type l) x n) (long_of b r k.type) ∙ sym (common_longs l r n)))

-- the common type is `int` or `long`
abbrev pub Wide : TypeName → Type 0
Wide t = (t ≡ types.Int) ⊎ (t ≡ types.Long)

pub wide : (l r : TypeName) → Wide (common l r)
wide types.Int types.Int = inl refl
wide types.Int types.Long = inr refl
wide types.Int types.Char = inl refl
wide types.Long r = inr refl
wide types.Char types.Int = inl refl
wide types.Char types.Long = inr refl
wide types.Char types.Char = inl refl

abbrev pub bits : TypeName → ℕ
bits types.Long = 63
bits _ = 31

pub fits_int : (n : ℤ) (test : Bool) → is_within 31 n ≡ test → Agree types.Int (if test then Ok (values.Int n) else Err Overflow) (if test then Ok n else Err Overflow)
fits_int n true is = (record { type = refl; within = is }, refl)
fits_int n false is = refl

fits_long : (n : ℤ) (test : Bool) → is_within 63 n ≡ test → Agree types.Long (if test then Ok (values.Long n) else Err Overflow) (if test then Ok n else Err Overflow)
fits_long n true is = (record { type = refl; within = is }, refl)
fits_long n false is = refl

fits_wide : (t : TypeName) (n : ℤ) → Wide t → Agree t (typed_or_trap t n) (fitting (bits t) n)
fits_wide t n w = ⊎_elim (λ e. subst (λ u. Agree u (typed_or_trap u n) (fitting (bits u) n)) (sym e) (fits_int n (is_within 31 n) refl)) (λ e. subst (λ u. Agree u (typed_or_trap u n) (fitting (bits u) n)) (sym e) (fits_long n (is_within 63 n) refl)) w

pub arithmetic_agrees : (l r : TypeName) (a b : Value) (n : ℤ) → IsIn l a → IsIn r b → Agree (common l r) (in_common a b n) (fitting (bits (common l r)) n)
arithmetic_agrees l r a b n h k = subst (λ c. Agree (common l r) c (fitting (bits (common l r)) n)) (sym (in_common_is l r a b n h k)) (fits_wide (common l r) n (wide l r))

test_agrees : (test : Bool) → Agree types.Int (Ok (truth test)) (Ok (arithmetic.truth test))
test_agrees true = (record { type = refl; within = refl }, refl)
test_agrees false = (record { type = refl; within = refl }, refl)

-- ---- the common type, as the machine's arithmetic tells it

abbrev by_bits : Bool → Bool → ℕ
by_bits a b = if a then 63 else (if b then 63 else 31)

bits_longs : (a b : Value) → bits_of a b ≡ by_bits (is_long a) (is_long b)
unfolding is_long
bits_longs (values.Long x) b = refl
bits_longs (values.Int x) (values.Long y) = refl
bits_longs (values.Int x) (values.Int y) = refl
bits_longs (values.Int x) (values.Char y) = refl
bits_longs (values.Int x) (values.Text y) = refl
bits_longs (values.Char x) (values.Long y) = refl
bits_longs (values.Char x) (values.Int y) = refl
bits_longs (values.Char x) (values.Char y) = refl
bits_longs (values.Char x) (values.Text y) = refl
bits_longs (values.Text x) (values.Long y) = refl
bits_longs (values.Text x) (values.Int y) = refl
bits_longs (values.Text x) (values.Char y) = refl
bits_longs (values.Text x) (values.Text y) = refl

common_bits : (l r : TypeName) → bits (common l r) ≡ by_bits (is_long_type l) (is_long_type r)
unfolding is_long_type
common_bits types.Int types.Int = refl
common_bits types.Int types.Long = refl
common_bits types.Int types.Char = refl
common_bits types.Long r = refl
common_bits types.Char types.Int = refl
common_bits types.Char types.Long = refl
common_bits types.Char types.Char = refl

pub bits_are : (l r : TypeName) (a b : Value) → IsIn l a → IsIn r b → bits_of a b ≡ bits (common l r)
bits_are l r a b h k = bits_longs a b ∙ (ap (λ x. by_bits x (is_long b)) (long_of a l h.type) ∙ (ap (λ x. by_bits (is_long_type l) x) (long_of b r k.type) ∙ sym (common_bits l r)))

abbrev by_value : Bool → Bool → ℤ → Value
by_value a b n = if a then values.Long n else (if b then values.Long n else values.Int n)

value_longs : (a b : Value) (n : ℤ) → in_type a b n ≡ by_value (is_long a) (is_long b) n
unfolding is_long
value_longs (values.Long x) b n = refl
value_longs (values.Int x) (values.Long y) n = refl
value_longs (values.Int x) (values.Int y) n = refl
value_longs (values.Int x) (values.Char y) n = refl
value_longs (values.Int x) (values.Text y) n = refl
value_longs (values.Char x) (values.Long y) n = refl
value_longs (values.Char x) (values.Int y) n = refl
value_longs (values.Char x) (values.Char y) n = refl
value_longs (values.Char x) (values.Text y) n = refl
value_longs (values.Text x) (values.Long y) n = refl
value_longs (values.Text x) (values.Int y) n = refl
value_longs (values.Text x) (values.Char y) n = refl
value_longs (values.Text x) (values.Text y) n = refl

-- a value of this type, with this number
pub record Typed (of : TypeName) (n : ℤ) (v : Value) : Type 0 where
  pub is : IsIn of v
  pub number : number v ≡ n

common_typed : (l r : TypeName) (n : ℤ) → is_within (bits (common l r)) n ≡ true → Typed (common l r) n (by_value (is_long_type l) (is_long_type r) n)
unfolding is_long_type
common_typed types.Int types.Int n h = record { is = record { type = refl; within = h }; number = refl }
common_typed types.Int types.Long n h = record { is = record { type = refl; within = h }; number = refl }
common_typed types.Int types.Char n h = record { is = record { type = refl; within = h }; number = refl }
common_typed types.Long r n h = record { is = record { type = refl; within = h }; number = refl }
common_typed types.Char types.Int n h = record { is = record { type = refl; within = h }; number = refl }
common_typed types.Char types.Long n h = record { is = record { type = refl; within = h }; number = refl }
common_typed types.Char types.Char n h = record { is = record { type = refl; within = h }; number = refl }

pub typed_as : (l r : TypeName) (a b : Value) → IsIn l a → IsIn r b → (n : ℤ) → is_within (bits (common l r)) n ≡ true → Typed (common l r) n (in_type a b n)
typed_as l r a b h k n within =
    let same = value_longs a b n ∙ (ap (λ x. by_value x (is_long b) n) (long_of a l h.type) ∙ ap (λ x. by_value (is_long_type l) x n) (long_of b r k.type)) in
    subst (Typed (common l r) n) (sym same) (common_typed l r n within)

-- ---- what each operator computes

abbrev pub computed : Operator → TypeName → ℤ → ℤ → Checked ℤ
computed operators.Add t x y = fitting (bits t) (x +ℤ y)
computed operators.Subtract t x y = fitting (bits t) (x -ℤ y)
computed operators.Multiply t x y = fitting (bits t) (x *ℤ y)
computed operators.Divide t x y = divided (bits t) x y
computed operators.Remainder t x y = remaining (bits t) x y
computed operators.Equal t x y = Ok (arithmetic.truth (int_eq x y))
computed operators.NotEqual t x y = Ok (arithmetic.truth (not (int_eq x y)))
computed operators.Less t x y = Ok (arithmetic.truth (int_lt x y))
computed operators.LessEqual t x y = Ok (arithmetic.truth (is_at_most x y))
computed operators.Greater t x y = Ok (arithmetic.truth (int_lt y x))
computed operators.GreaterEqual t x y = Ok (arithmetic.truth (is_at_most y x))
computed operators.And t x y = Ok y
computed operators.Or t x y = Ok y

divide_agrees : (l r : TypeName) (a b : Value) → IsIn l a → IsIn r b → (test : Bool) → Agree (common l r) (if test then Err DivideByZero else in_common a b (int_div (number a) (number b))) (if test then Err DivideByZero else fitting (bits (common l r)) (int_div (number a) (number b)))
divide_agrees l r a b h k true = refl
divide_agrees l r a b h k false = arithmetic_agrees l r a b (int_div (number a) (number b)) h k

abbrev pub RemainderAgrees : Type 0
RemainderAgrees = (l r : TypeName) (a b : Value) → IsIn l a → IsIn r b → Agree (common l r) (remainder a b) (remaining (bits (common l r)) (number a) (number b))

module _ (remainders : RemainderAgrees) where
  pub operator_agrees : (o : Operator) (l r : TypeName) (i : Instr) → operator_code o (common l r) ≡ Some i → (a b : Value) → IsIn l a → IsIn r b → Agree (operator_type o (common l r)) (operated o a b) (computed o (common l r) (number a) (number b))
  operator_agrees operators.Add l r i is a b h k = arithmetic_agrees l r a b (number a +ℤ number b) h k
  operator_agrees operators.Subtract l r i is a b h k = arithmetic_agrees l r a b (number a -ℤ number b) h k
  operator_agrees operators.Multiply l r i is a b h k = arithmetic_agrees l r a b (number a *ℤ number b) h k
  operator_agrees operators.Divide l r i is a b h k = divide_agrees l r a b h k (is_zero b)
  operator_agrees operators.Remainder l r i is a b h k = remainders l r a b h k
  operator_agrees operators.Equal l r i is a b h k = test_agrees (is_equal a b)
  operator_agrees operators.NotEqual l r i is a b h k = test_agrees (not (is_equal a b))
  operator_agrees operators.Less l r i is a b h k = test_agrees (is_less a b)
  operator_agrees operators.LessEqual l r i is a b h k = test_agrees (not (is_less b a))
  operator_agrees operators.Greater l r i is a b h k = test_agrees (is_less b a)
  operator_agrees operators.GreaterEqual l r i is a b h k = test_agrees (not (is_less a b))
  operator_agrees operators.And l r i is a b h k = absurd cc
  operator_agrees operators.Or l r i is a b h k = absurd cc

module _ (p : PlainProgram) (depth : ℕ) where
  ByOne : Operator → TypeName → Instr → Type 0
  ByOne o t i = (stack : Stack) → effect p depth i stack ≡ on_two (computed o t) stack

  the_code : (o : Operator) (t : TypeName) → Wide t → (i : Instr) → operator_code o t ≡ Some i → (j : Instr) → operator_code o t ≡ Some j → ByOne o t j → ByOne o t i
  the_code o t w i is j this h = let e : j ≡ i = cc in subst (λ k. ByOne o t k) e h

  narrow_code : (o : Operator) (i : Instr) → operator_code o types.Int ≡ Some i → ByOne o types.Int i
  unfolding ByOne effect
  narrow_code operators.Add i is = let e : code.AddInt ≡ i = cc in subst (λ k. ByOne operators.Add types.Int k) e (λ stack. refl)
  narrow_code operators.Subtract i is = let e : code.SubInt ≡ i = cc in subst (λ k. ByOne operators.Subtract types.Int k) e (λ stack. refl)
  narrow_code operators.Multiply i is = let e : code.MulInt ≡ i = cc in subst (λ k. ByOne operators.Multiply types.Int k) e (λ stack. refl)
  narrow_code operators.Divide i is = let e : code.DivInt ≡ i = cc in subst (λ k. ByOne operators.Divide types.Int k) e (λ stack. refl)
  narrow_code operators.Remainder i is = let e : code.RemInt ≡ i = cc in subst (λ k. ByOne operators.Remainder types.Int k) e (λ stack. refl)
  narrow_code operators.Equal i is = let e : code.Equal ≡ i = cc in subst (λ k. ByOne operators.Equal types.Int k) e (λ stack. refl)
  narrow_code operators.NotEqual i is = let e : code.NotEqual ≡ i = cc in subst (λ k. ByOne operators.NotEqual types.Int k) e (λ stack. refl)
  narrow_code operators.Less i is = let e : code.Less ≡ i = cc in subst (λ k. ByOne operators.Less types.Int k) e (λ stack. refl)
  narrow_code operators.LessEqual i is = let e : code.LessEqual ≡ i = cc in subst (λ k. ByOne operators.LessEqual types.Int k) e (λ stack. refl)
  narrow_code operators.Greater i is = let e : code.Greater ≡ i = cc in subst (λ k. ByOne operators.Greater types.Int k) e (λ stack. refl)
  narrow_code operators.GreaterEqual i is = let e : code.GreaterEqual ≡ i = cc in subst (λ k. ByOne operators.GreaterEqual types.Int k) e (λ stack. refl)
  narrow_code operators.And i is = absurd cc
  narrow_code operators.Or i is = absurd cc

  wide_code : (o : Operator) (i : Instr) → operator_code o types.Long ≡ Some i → ByOne o types.Long i
  unfolding ByOne effect
  wide_code operators.Add i is = let e : code.AddLong ≡ i = cc in subst (λ k. ByOne operators.Add types.Long k) e (λ stack. refl)
  wide_code operators.Subtract i is = let e : code.SubLong ≡ i = cc in subst (λ k. ByOne operators.Subtract types.Long k) e (λ stack. refl)
  wide_code operators.Multiply i is = let e : code.MulLong ≡ i = cc in subst (λ k. ByOne operators.Multiply types.Long k) e (λ stack. refl)
  wide_code operators.Divide i is = let e : code.DivLong ≡ i = cc in subst (λ k. ByOne operators.Divide types.Long k) e (λ stack. refl)
  wide_code operators.Remainder i is = let e : code.RemLong ≡ i = cc in subst (λ k. ByOne operators.Remainder types.Long k) e (λ stack. refl)
  wide_code operators.Equal i is = let e : code.Equal ≡ i = cc in subst (λ k. ByOne operators.Equal types.Long k) e (λ stack. refl)
  wide_code operators.NotEqual i is = let e : code.NotEqual ≡ i = cc in subst (λ k. ByOne operators.NotEqual types.Long k) e (λ stack. refl)
  wide_code operators.Less i is = let e : code.Less ≡ i = cc in subst (λ k. ByOne operators.Less types.Long k) e (λ stack. refl)
  wide_code operators.LessEqual i is = let e : code.LessEqual ≡ i = cc in subst (λ k. ByOne operators.LessEqual types.Long k) e (λ stack. refl)
  wide_code operators.Greater i is = let e : code.Greater ≡ i = cc in subst (λ k. ByOne operators.Greater types.Long k) e (λ stack. refl)
  wide_code operators.GreaterEqual i is = let e : code.GreaterEqual ≡ i = cc in subst (λ k. ByOne operators.GreaterEqual types.Long k) e (λ stack. refl)
  wide_code operators.And i is = absurd cc
  wide_code operators.Or i is = absurd cc

  pub operator_runs : (o : Operator) (l r : TypeName) (i : Instr) → operator_code o (common l r) ≡ Some i → (stack : Stack) → effect p depth i stack ≡ on_two (computed o (common l r)) stack
  unfolding ByOne
  operator_runs o l r i is = ⊎_elim (λ e. subst (λ t. ByOne o t i) (sym e) (narrow_code o i (sym (ap (operator_code o) e) ∙ is))) (λ e. subst (λ t. ByOne o t i) (sym e) (wide_code o i (sym (ap (operator_code o) e) ∙ is))) (wide l r)
