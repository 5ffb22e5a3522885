-- A word writes a number without sign or leading zero just where its reading gives it and it begins plainly.
use Rattle.std.proofs.Common.{◌≡◌, ◌≢◌, ℕ, ◌<◌, ◌≤◌, ◌^◌, List, length, get_or, Result, Ok, Err, IfSome, IfNone, sym, ap, ◌∙◌, arith}
use Rattle.std.specs.Fmt.{decimal}
use Rattle.std.specs.Result.{result_ok}
use Rattle.std.specs.Str.Parse.{AllDigits, digits_value, ParsesUnsigned}
use Rattle.std.proofs.lemmas.Fmt.{decimal_nonempty, length-decimal-le_succ, first_decimal, digits_decimal, decimal-digits_value, parse-decimal}
use Rattle.std.proofs.lemmas.Str.Parse.{IsNumeralModel, numerals_by_value, tells_digits, not_in_digits, parse_plain}

-- decimal digits and their value
own : IsNumeralModel (AllDigits 10) (digits_value 10)
own = numerals_by_value _ tells_digits

-- no number is written by nothing
pub some_digits : (bytes : List ℕ) (n : ℕ) → length bytes ≡ 0 → n < 2 ^ 64 → bytes ≡ decimal n → ⊥
some_digits bytes n none small e = omega (arith, decimal_nonempty n small, ap length e)

-- no number begins with `+`
pub no_plus : (bytes : List ℕ) (n : ℕ) → get_or bytes 0 0 ≡ 43 → n < 2 ^ 64 → bytes ≡ decimal n → ⊥
no_plus bytes n plus small e =
    not_in_digits own (decimal n) 43 (digits_decimal own n small) (λ range. omega arith) 0 (decimal_nonempty n small) (ap (λ (ds : List ℕ). get_or ds 0 0) (sym e) ∙ plus)

-- no number of several digits begins with `0`
pub no_zero : (bytes : List ℕ) (n : ℕ) → get_or bytes 0 0 ≡ 48 → 1 < length bytes → n < 2 ^ 64 → bytes ≡ decimal n → ⊥
no_zero bytes n zero long small e =
    let positive : 0 < n = omega (arith, length-decimal-le_succ n small, ap length e) in
    omega (arith, first_decimal n positive small, ap (λ (ds : List ℕ). get_or ds 0 0) e)

-- what is read from a word that begins plainly is what it writes
pub read_is_written : {E : Type 0} (bytes : List ℕ) (r : Result ℕ E) → get_or bytes 0 0 ≢ 43 → (get_or bytes 0 0 ≡ 48 → length bytes ≤ 1) → ParsesUnsigned 64 10 bytes r → IfSome (result_ok r) (λ n. bytes ≡ decimal n)
read_is_written {E} bytes (Ok n) plain single parsed =
    let read = parse_plain own {E = E} 64 bytes (Ok n) parsed plain in
    let written : decimal (digits_value 10 bytes) ≡ bytes = decimal-digits_value own bytes read.0.0 read.0.1 (λ zero. omega (arith, single zero, read.0.1)) read.0.2 in
    sym written ∙ ap decimal (sym read.1)
read_is_written bytes (Err e) plain single parsed = tt

-- a word that is refused writes no number
pub refused_is_unwritten : {E : Type 0} (bytes : List ℕ) (r : Result ℕ E) → ParsesUnsigned 64 10 bytes r → IfNone (result_ok r) ((n : ℕ) → n < 2 ^ 64 → bytes ≢ decimal n)
refused_is_unwritten bytes (Ok n) parsed = tt
refused_is_unwritten {E} bytes (Err e) parsed =
    λ n small written. let r : Result ℕ E = Err e in let read : r ≡ Ok n = parse-decimal 64 n bytes r small small written parsed in cc
