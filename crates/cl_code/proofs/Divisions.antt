-- The machine divides numbers as the meaning divides values.
use Rattle.std.proofs.Common.{◌≡◌, ◌∙◌, sym, ap, refl, ℕ, zero, suc, ◌-◌, ◌^◌, ◌<◌, ◌≤◌, Bool, true, false, ℤ, pos, negsuc, arith}
use Rattle.std.specs.Prelude.{◌/◌, ◌&&◌, ◌≢◌, nat_lt, neg_ℤ, int_div, int_rem, if◌then◌else◌, Ok, Err}
use Rattle.std.specs.Ordering.{int_eq}
use Rattle.std.proofs.Math.Nat.{div-le_self, div-lt_self, div-one}
use Rattle.std.proofs.lemmas.Bool.{ltb-true, ltb-false, lt-ltb, le-ltb}
use Rattle.std.proofs.lemmas.Bool.Decides.{Decides-int_eq}
use Rattle.std.proofs.lemmas.Nat.{pow_pos}
use Rattle.cl_value.specs.declared.process.Trap.TheVariants.{Overflow, DivideByZero}
use Rattle.cl_value.specs.declared.value.Value.{Value}
use Rattle.cl_value.specs.declared.value.Value.TheVariants.{Int, Long, Char, Text}
use Rattle.cl_model.specs.Doing.{Checked}
use Rattle.cl_model.specs.Numbers.{number, in_common, and_then, remainder}
use Rattle.cl_value.specs.Ranges.{is_within}
use Rattle.cl_code.specs.Arithmetic.{fitting, remaining, is_least_by_minus_one, bits_of, valued, QuotientsAgree, RemaindersAgree}

-- ---- quotients of numbers

below : (k : ℕ) (n : ℕ) → n < 2 ^ k → is_within k (pos n) ≡ true
below k n h = lt-ltb n (2 ^ k) h

-- a quotient of what is not below zero, with the sign of a negative one
negative : (k : ℕ) (n : ℕ) → n ≤ 2 ^ k → is_within k (neg_ℤ (pos n)) ≡ true
negative k zero h = below k 0 (pow_pos k)
negative k (suc n) h = lt-ltb n (2 ^ k) (omega (arith, h))

-- the least number by -1
least : (k : ℕ) (x y : ℤ) → x ≡ negsuc (2 ^ k - 1) → y ≡ negsuc 0 → is_within k (int_div x y) ≡ false
least k x y e f =
    ap (is_within k) (ap (λ z. int_div z y) e ∙ ap (int_div (negsuc (2 ^ k - 1))) f)
    ∙ le-ltb (suc (2 ^ k - 1) / 1) (2 ^ k) (omega (arith, div-one (suc (2 ^ k - 1)), pow_pos k))

-- each other quotient by a number that isn't 0
other : (k : ℕ) (x y : ℤ) → is_within k x ≡ true → y ≢ pos 0 → ((x ≡ negsuc (2 ^ k - 1)) × (y ≡ negsuc 0) → ⊥) → is_within k (int_div x y) ≡ true
other k (pos a) (pos b) w some not_least = below k (a / b) (omega (arith, div-le_self a b, ltb-true a (2 ^ k) w))
other k (negsuc a) (pos b) w some not_least = negative k (suc a / b) (omega (arith, div-le_self (suc a) b, ltb-true a (2 ^ k) w))
other k (pos a) (negsuc b) w some not_least = negative k (a / suc b) (omega (arith, div-le_self a (suc b), ltb-true a (2 ^ k) w))
other k (negsuc a) (negsuc zero) w some not_least = by_test (nat_lt (suc a / 1) (2 ^ k)) refl
  where
    by_test : (test : Bool) → nat_lt (suc a / 1) (2 ^ k) ≡ test → nat_lt (suc a / 1) (2 ^ k) ≡ true
    by_test true e = e
    by_test false e = absurd (not_least (ap (λ n. negsuc n) (omega (arith, div-one (suc a), ltb-true a (2 ^ k) w, ltb-false (suc a / 1) (2 ^ k) e)), refl))
other k (negsuc a) (negsuc (suc b)) w some not_least = below k (suc a / suc (suc b)) (omega (arith, div-lt_self {n = suc a} {k = suc (suc b)} (omega arith) (omega arith), ltb-true a (2 ^ k) w))

both : (a b : Bool) → (a && b) ≡ true → (a ≡ true) × (b ≡ true)
both true b e = (refl, e)
both false b e = absurd cc

either : (a b : Bool) → (a && b) ≡ false → a ≡ true → b ≡ true → ⊥
either true b e f g = let h : true ≡ false = sym g ∙ e in absurd cc
either false b e f g = absurd cc

-- ---- of values

fit : (test : Bool) (n : ℤ) (f : ℤ → Value) → (if test then Ok (f n) else Err Overflow) ≡ and_then (if test then Ok n else Err Overflow) (λ m. Ok (f m))
fit true n f = refl
fit false n f = refl

common_is : (a b : Value) (n : ℤ) → in_common a b n ≡ valued a b (fitting (bits_of a b) n)
common_is (Long a) b n = fit (is_within 63 n) n (λ m. Long m)
common_is (Int a) (Long b) n = fit (is_within 63 n) n (λ m. Long m)
common_is (Char a) (Long b) n = fit (is_within 63 n) n (λ m. Long m)
common_is (Text a) (Long b) n = fit (is_within 63 n) n (λ m. Long m)
common_is (Int a) (Int b) n = fit (is_within 31 n) n (λ m. Int m)
common_is (Int a) (Char b) n = fit (is_within 31 n) n (λ m. Int m)
common_is (Int a) (Text b) n = fit (is_within 31 n) n (λ m. Int m)
common_is (Char a) (Int b) n = fit (is_within 31 n) n (λ m. Int m)
common_is (Char a) (Char b) n = fit (is_within 31 n) n (λ m. Int m)
common_is (Char a) (Text b) n = fit (is_within 31 n) n (λ m. Int m)
common_is (Text a) (Int b) n = fit (is_within 31 n) n (λ m. Int m)
common_is (Text a) (Char b) n = fit (is_within 31 n) n (λ m. Int m)
common_is (Text a) (Text b) n = fit (is_within 31 n) n (λ m. Int m)

pub quotients_agree : QuotientsAgree
quotients_agree a b = ap (λ (q : Checked Value). if int_eq (number b) (pos 0) then Err DivideByZero else q) (common_is a b (int_div (number a) (number b))) ∙ by_test (int_eq (number b) (pos 0)) (fitting (bits_of a b) (int_div (number a) (number b)))
  where
    by_test : (nought : Bool) (c : Checked ℤ) → (if nought then Err DivideByZero else valued a b c) ≡ valued a b (if nought then Err DivideByZero else c)
    by_test true c = refl
    by_test false c = refl

pub remainders_agree : RemaindersAgree
remainders_agree a b w =
    ap (λ (q : Checked Value). and_then (if int_eq y (pos 0) then Err DivideByZero else q) (λ _. in_common a b r)) (common_is a b d)
    ∙ by_tests (int_eq y (pos 0)) (is_least_by_minus_one k x y) (is_within k d) overflows stays
  where
    k : ℕ
    k = bits_of a b

    x : ℤ
    x = number a

    y : ℤ
    y = number b

    d : ℤ
    d = int_div x y

    r : ℤ
    r = int_rem x y

    overflows : is_least_by_minus_one k x y ≡ true → is_within k d ≡ false
    overflows e = let parts = both (int_eq x (negsuc (2 ^ k - 1))) (int_eq y (negsuc 0)) e in
        least k x y ((Decides-int_eq x (negsuc (2 ^ k - 1))).0 parts.0) ((Decides-int_eq y (negsuc 0)).0 parts.1)

    stays : int_eq y (pos 0) ≡ false → is_least_by_minus_one k x y ≡ false → is_within k d ≡ true
    stays nought e = other k x y w (λ f. let g = (Decides-int_eq y (pos 0)).1 f in let h : true ≡ false = sym g ∙ nought in absurd cc)
        (λ f. either (int_eq x (negsuc (2 ^ k - 1))) (int_eq y (negsuc 0)) e ((Decides-int_eq x (negsuc (2 ^ k - 1))).1 f.0) ((Decides-int_eq y (negsuc 0)).1 f.1))

    by_tests : (nought by_minus_one within : Bool) → (by_minus_one ≡ true → within ≡ false) → (nought ≡ false → by_minus_one ≡ false → within ≡ true)
        → and_then (if nought then Err DivideByZero else valued a b (if within then Ok d else Err Overflow)) (λ _. in_common a b r) ≡ valued a b (if nought then Err DivideByZero else (if by_minus_one then Err Overflow else fitting k r))
    by_tests true by_minus_one within g h = refl
    by_tests false true true g h = let e : true ≡ false = g refl in absurd cc
    by_tests false true false g h = refl
    by_tests false false true g h = common_is a b r
    by_tests false false false g h = let e : false ≡ true = h refl refl in absurd cc

-- with a first operand beyond its type they differ
pub beyond : (remainder (Int (pos (2 ^ 31))) (Int (pos 1)) ≡ Err Overflow) × (remaining 31 (pos (2 ^ 31)) (pos 1) ≡ Ok (pos 0))
beyond = (refl, refl)
