-- What a format prints, from its first part on. (ISO/IEC 9899:1999, 7.19.6.1.)
use Rattle.std.proofs.Common.{◌≡◌, sym, refl, ℕ, List, [], ◌∷◌, ◌++◌, length, get_or, take, drop, ◌≤◌, ◌-◌, arith}
use Rattle.std.proofs.lemmas.List.{append-nil}
use Rattle.std.proofs.lemmas.Grind.{common_steps}
use Rattle.cl_value.specs.declared.value.Value.{Value}
use Rattle.cl_meaning.specs.Printing.{filled, decimal_of, character_of, behind_first}

pub number_is : (rest : List ℕ) (values : List Value) → filled (37 ∷ 100 ∷ rest) values ≡ decimal_of values ++ filled rest (behind_first values)
number_is [] values = sym (append-nil (decimal_of values))
number_is (c ∷ rest) values = refl

pub character_is : (rest : List ℕ) (values : List Value) → filled (37 ∷ 99 ∷ rest) values ≡ character_of values ++ filled rest (behind_first values)
character_is [] values = refl
character_is (c ∷ rest) values = refl

pub percent_is : (rest : List ℕ) (values : List Value) → filled (37 ∷ 37 ∷ rest) values ≡ 37 ∷ filled rest values
percent_is [] values = refl
percent_is (c ∷ rest) values = refl

pub long_is : (b c : ℕ) (rest : List ℕ) (values : List Value) → (b ≡ 100 → ⊥) → (b ≡ 99 → ⊥) → (b ≡ 37 → ⊥) → filled (37 ∷ b ∷ c ∷ rest) values ≡ decimal_of values ++ filled rest (behind_first values)
long_is b c rest values no_d no_c no_percent = grind (arith, common_steps)

pub byte_is : (a : ℕ) (rest : List ℕ) (values : List Value) → (a ≡ 37 → ⊥) → filled (a ∷ rest) values ≡ a ∷ filled rest values
byte_is a [] values other = refl
byte_is a (b ∷ []) values other = grind (arith, common_steps)
byte_is a (b ∷ c ∷ rest) values other = grind (arith, common_steps)

pub first_and_rest : (xs : List ℕ) → 1 ≤ length xs → xs ≡ get_or xs 0 0 ∷ take (length xs - 1) (drop 1 xs)
first_and_rest [] some = absurd (omega arith)
first_and_rest (x ∷ xs) some = grind (arith, common_steps)
