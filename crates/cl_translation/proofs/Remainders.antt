-- The machine's remainder is that of values, by the law of the machine's arithmetic: the types of the operands tell their common type.
use Rattle.std.proofs.Common.{◌≡◌, ℕ, Bool, true, false, refl, sym, subst}
use Rattle.std.specs.Prelude.{ℤ, if◌then◌else◌, int_rem, Ok, Err}
use Rattle.cl_value.specs.declared.process.Trap.TheVariants.{Overflow, DivideByZero}
use Rattle.cl_value.specs.declared.value.Value.{Value}
use Rattle.cl_value.specs.declared.value.Value.TheVariants as values
use Rattle.cl_value.specs.Ranges.{is_within}
use Rattle.cl_ast.specs.declared.tree.TypeName.{TypeName}
use Rattle.cl_ast.specs.declared.tree.TypeName.TheVariants as types
use Rattle.cl_model.specs.Doing.{Checked}
use Rattle.cl_model.specs.Numbers.{number, remainder}
use Rattle.cl_code.specs.Arithmetic.{is_zero, is_least_by_minus_one, remaining, bits_of, valued, RemaindersAgree}
use Rattle.cl_translation.specs.Stands.{IsIn}
use Rattle.cl_translation.specs.Chosen.{common}
use Rattle.cl_translation.proofs.Operators.{Agree, bits, bits_are, typed_as, RemainderAgrees}
use Rattle.cl_translation.proofs.Conversions.{long_within, byte_within}

int_within : (t : TypeName) (v : Value) → IsIn t v → (t ≡ types.Long → ⊥) → is_within 31 (number v) ≡ true
int_within t (values.Int n) h other = h.within
int_within t (values.Char n) h other = byte_within n h.within
int_within types.Int (values.Long n) h other = absurd (let e = h.type in cc)
int_within types.Char (values.Long n) h other = absurd (let e = h.type in cc)
int_within types.Long (values.Long n) h other = absurd (other refl)
int_within types.Int (values.Text n) h other = absurd (let e = h.type in cc)
int_within types.Char (values.Text n) h other = absurd (let e = h.type in cc)
int_within types.Long (values.Text n) h other = absurd (let e = h.type in cc)

-- a value lies within the type that it has in common with another
common_within : (l r : TypeName) (a : Value) → IsIn l a → is_within (bits (common l r)) (number a) ≡ true
common_within types.Long r a h = long_within types.Long a h
common_within types.Int types.Long a h = long_within types.Int a h
common_within types.Char types.Long a h = long_within types.Char a h
common_within types.Int types.Int a h = int_within types.Int a h (λ e. cc)
common_within types.Int types.Char a h = int_within types.Int a h (λ e. cc)
common_within types.Char types.Int a h = int_within types.Char a h (λ e. cc)
common_within types.Char types.Char a h = int_within types.Char a h (λ e. cc)

-- what remains lies within the type
remaining_within : (b : ℕ) (x y n : ℤ) → remaining b x y ≡ Ok n → is_within b n ≡ true
remaining_within b x y n is = by (is_zero y) (is_least_by_minus_one b x y) (is_within b (int_rem x y)) refl is
  where
    by : (zero least fit : Bool) → is_within b (int_rem x y) ≡ fit → (if zero then Err DivideByZero else (if least then Err Overflow else (if fit then Ok (int_rem x y) else Err Overflow))) ≡ Ok n → is_within b n ≡ true
    by true least fit within same = absurd cc
    by false true fit within same = absurd cc
    by false false true within same = let e : int_rem x y ≡ n = cc in subst (λ m. is_within b m ≡ true) e within
    by false false false within same = absurd cc

valued_agrees : (l r : TypeName) (a b : Value) → IsIn l a → IsIn r b → (c : Checked ℤ) → remaining (bits_of a b) (number a) (number b) ≡ c → Agree (common l r) (valued a b c) c
valued_agrees l r a b h k (Ok n) is =
    let in_common = typed_as l r a b h k n (subst (λ m. is_within m n ≡ true) (bits_are l r a b h k) (remaining_within (bits_of a b) (number a) (number b) n is)) in
    (in_common.is, in_common.number)
valued_agrees l r a b h k (Err t) is = refl

pub remainders : RemaindersAgree → RemainderAgrees
remainders agree l r a b h k =
    let same = bits_are l r a b h k in
    subst (λ n. Agree (common l r) (remainder a b) (remaining n (number a) (number b))) same
    (subst (λ c. Agree (common l r) c (remaining (bits_of a b) (number a) (number b))) (sym (agree a b (subst (λ n. is_within n (number a) ≡ true) (sym same) (common_within l r a h))))
    (valued_agrees l r a b h k (remaining (bits_of a b) (number a) (number b)) refl))
