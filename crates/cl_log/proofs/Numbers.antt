-- A number is read as it was spelled.
use Rattle.std.proofs.Common.{◌≡◌, ℕ, zero, suc, ◌+◌, ◌-◌, ◌*◌, ◌/◌, ◌%◌, ◌^◌, ◌<◌, ◌≤◌, List, [], ◌∷◌, ◌++◌, pos, negsuc, ℤ, refl, sym, ap, ◌∙◌, inl, inr, arith, pow-suc}
use Rattle.std.proofs.lemmas.Bool.{cases_lt}
use Rattle.std.proofs.lemmas.Bool.Decides.{nat_tests}
use Rattle.cl_log.specs.Numbers.{groups, number, number_at, unsigned, signed}

pub number_at-last : (n : ℕ) (rest : List ℕ) → n < 128 → number_at (n ∷ rest) ≡ (n, rest)
unfolding number_at
number_at-last n rest h = grind (arith, nat_tests)

pub number_at-more : (b m : ℕ) (bs rest : List ℕ) → 128 ≤ b → number_at bs ≡ (m, rest) → number_at (b ∷ bs) ≡ ((b - 128 + 128 * m) % 2 ^ 64, rest)
unfolding number_at
number_at-more b m bs rest h e = grind (arith, nat_tests)

pub groups-last : (f n : ℕ) → n < 128 → groups f n ≡ n ∷ []
unfolding groups
groups-last zero n h = let e : n % 128 ≡ n = omega arith in ap (λ x. x ∷ []) e
groups-last (suc f) n h = grind (arith, nat_tests)

groups-more : (f n : ℕ) → 128 ≤ n → groups (suc f) n ≡ (n % 128 + 128) ∷ groups f (n / 128)
unfolding groups
groups-more f n h = grind (arith, nat_tests)

pub groups-end : (f n : ℕ) → f ≡ 0 → groups f n ≡ (n % 128) ∷ []
unfolding groups
groups-end zero n h = refl
groups-end (suc f) n h = absurd (omega arith)

pub groups-behind : (f n : ℕ) → 0 < f → 128 ≤ n → groups f n ≡ (n % 128 + 128) ∷ groups (f - 1) (n / 128)
groups-behind zero n p h = absurd (omega arith)
groups-behind (suc f) n p h = let e : suc f - 1 ≡ f = omega arith in groups-more f n h ∙ ap (λ k. (n % 128 + 128) ∷ groups k (n / 128)) (sym e)

below : (f n : ℕ) → n < 128 ^ suc (suc f) → n / 128 < 128 ^ suc f
below f n h = let e = pow-suc 128 (suc f) in omega arith

again : (n : ℕ) → n < 2 ^ 64 → (n % 128 + 128 - 128 + 128 * (n / 128)) % 2 ^ 64 ≡ n
again n h = omega arith

pub groups-read : (f n : ℕ) (rest : List ℕ) → n < 128 ^ suc f → n < 2 ^ 64 → number_at (groups f n ++ rest) ≡ (n, rest)
groups-read zero n rest h k = let e : n < 128 = omega arith in rw (groups-last zero n e) (number_at-last n rest e)
groups-read (suc f) n rest h k =
    elim (cases_lt n 128) [
      | inl l ↦ rw (groups-last (suc f) n l) (number_at-last n rest l)
      | inr l ↦
          let e = number_at-more (n % 128 + 128) (n / 128) (groups f (n / 128) ++ rest) rest (omega arith) (groups-read f (n / 128) rest (below f n h) (omega arith)) in
          rw (groups-more f n l) (e ∙ ap (λ x. (x, rest)) (again n k))
    ]

pub number-read : (n : ℕ) (rest : List ℕ) → n < 2 ^ 64 → number_at (number n ++ rest) ≡ (n, rest)
unfolding number
number-read n rest h = groups-read 9 n rest (omega arith) h

-- a signed number has its sign again
pub signed-again : (n : ℤ) → signed (unsigned n) ≡ n
signed-again (pos n) = let e : (2 * n) / 2 ≡ n = omega arith in let z : (2 * n) % 2 ≡ 0 = omega arith in rw (z, e) refl
signed-again (negsuc n) = let e : (2 * n + 1) / 2 ≡ n = omega arith in let z : (2 * n + 1) % 2 ≡ 1 = omega arith in rw (z, e) refl
