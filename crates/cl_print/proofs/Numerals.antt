-- Decimal numbers are spelled so that they are read back.
use Rattle.std.proofs.Common.{◌≡◌, ◌≢◌, ℕ, zero, suc, ◌-◌, ◌<◌, ◌≤◌, ◌^◌, true, false, leb, eqb, List, [], ◌∷◌, get_or, decimal, refl, ap, ◌∙◌, arith, inl, inr}
use Rattle.std.specs.List.{list_all}
use Rattle.std.specs.Fmt.{digits}
use Rattle.std.proofs.lemmas.Bool.{cases_Bool, and_from, and_parts, leb-true, le-leb, cond-true, cond-false}
use Rattle.std.proofs.lemmas.Fmt.{digits_value-decimal, digits_decimal, first_decimal}
use Rattle.std.proofs.lemmas.Str.Parse.{IsDigitsTest, FoldsDigits, IsNumeralModel, numerals_by_fold}
use Rattle.cl_ast.specs.Bytes.{is_digit, digit_value}
use Rattle.cl_ast.specs.Lexemes.{is_decimal, value_on}

abbrev AreDigits : List ℕ → Type 0
AreDigits ds = list_all is_digit ds ≡ true

tells : IsDigitsTest AreDigits
tells = record {
  empty = refl;
  parts = λ c cs e. let k = and_parts (is_digit c) (list_all is_digit cs) e in let m = and_parts (leb 48 c) (leb c 57) k.0 in ((leb-true 48 c m.0, leb-true c 57 m.1), k.1);
  more = λ c cs k e. and_from (is_digit c) (list_all is_digit cs) (and_from (leb 48 c) (leb c 57) (le-leb 48 c k.0) (le-leb c 57 k.1)) e;
}

digit_of : (c : ℕ) → c ≤ 57 → digit_value c ≡ c - 48
digit_of c k = cond-true (leb c 57) _ _ (le-leb c 57 k)

folds : FoldsDigits (value_on 10)
folds = record {
  empty = λ n. refl;
  more = λ n c cs k. ap (λ m. value_on 10 m cs) (let e = digit_of c k.1 in omega (arith, e));
}

model : IsNumeralModel AreDigits (value_on 10 0)
model = numerals_by_fold AreDigits tells (value_on 10) folds

pub decimal_value : (n : ℕ) → n < 2 ^ 64 → value_on 10 0 (decimal n) ≡ n
decimal_value n h = digits_value-decimal model n h

-- no zero stands before other digits
starts_well : (ds : List ℕ) → 48 < get_or ds 0 0 → AreDigits ds → is_decimal ds ≡ true
starts_well [] first all = absurd (omega arith)
starts_well (d ∷ ds) first all = cond-false (eqb d 48) _ _ (let ne : d ≢ 48 = omega arith in not_same d ne) ∙ all
  where
    not_same : (d : ℕ) → d ≢ 48 → eqb d 48 ≡ false
    not_same d ne = elim (cases_Bool (eqb d 48)) [ inl t ↦ absurd (ne (grind arith)) | inr f ↦ f ]

pub decimal_form : (n : ℕ) → n < 2 ^ 64 → is_decimal (decimal n) ≡ true
unfolding digits
decimal_form zero h = refl
decimal_form (suc n) h = starts_well (decimal (suc n)) (first_decimal (suc n) (omega arith) h) (digits_decimal model (suc n) h)
