-- The value of digits only grows with more of them.
use Rattle.std.proofs.Common.{◌≡◌, ℕ, ◌+◌, ◌*◌, ◌<◌, ◌≤◌, false, leb, List, [], ◌∷◌, length, get_or, drop, Option, Some, None, refl, arith}
use Rattle.std.proofs.lemmas.Bool.{lt-leb}
use Rattle.std.proofs.lemmas.List.{at_drop_more}
use Rattle.std.proofs.Math.Nat.{le-mul_of_pos_right, mul_comm}
use Rattle.std.specs.Prelude.{if◌then◌else◌}
use Rattle.cl_ast.specs.Bytes.{digit_value}
use Rattle.cl_ast.specs.Lexemes.{value_on, fits_long}

grows : (base value : ℕ) (digits : List ℕ) → 0 < base → value ≤ value_on base value digits
grows base value [] positive = omega arith
grows base value (d ∷ ds) positive =
    let more = grows base (base * value + digit_value d) ds positive in
    let step : value ≤ value * base = le-mul_of_pos_right {m = base} value positive in
    let turned : value * base ≡ base * value = mul_comm value base in
    omega (arith, more, step, turned)

-- digits whose value is too great at one of them have none
pub wide_at : (base value : ℕ) (digits : List ℕ) (i : ℕ) → 0 < base → i < length digits → value_on base value (drop i digits) ≡ value_on base 0 digits → 9223372036854775807 < base * value + digit_value (get_or digits i 0) → ◌≡◌ {A = Option ℕ} None (if fits_long (value_on base 0 digits) then Some (value_on base 0 digits) else None)
wide_at base value digits i positive lt so_far wide =
    let e : value_on base value (drop i digits) ≡ value_on base (base * value + digit_value (get_or digits i 0)) (drop (i + 1) digits) = at_drop_more (value_on base value) digits i 0 lt in
    let more = grows base (base * value + digit_value (get_or digits i 0)) (drop (i + 1) digits) positive in
    let over : leb (value_on base 0 digits) 9223372036854775807 ≡ false = lt-leb _ _ (omega (arith, e, so_far, more, wide)) in
    rw over refl
