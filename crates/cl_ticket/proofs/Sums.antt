-- Sums over lists of which one item changes.
use Rattle.std.proofs.Common.{◌≡◌, ℕ, zero, suc, ◌+◌, ◌*◌, ◌<◌, ◌≤◌, List, [], ◌∷◌, ◌++◌, length, set, refl, sym, ap, subst, arith}
use mathlib.Core.Option.{some, some-injective, some-ne-none}
use lib.ListN.{get_elem?}
use Rattle.cl_ticket.specs.Weights.{weigh, upto, under, Each}

module _ {A : Type 0} where
  pub weigh-append : (h : A → ℕ) (xs ys : List A) → weigh h (xs ++ ys) ≡ weigh h xs + weigh h ys
  weigh-append h [] ys = omega arith
  weigh-append h (x ∷ xs) ys = omega (arith, weigh-append h xs ys)

  pub weigh-set : (f : A → ℕ) (l : List A) (i : ℕ) (v w : A) → get_elem? l i ≡ some v → weigh f (set l i w) + f v ≡ weigh f l + f w
  weigh-set f [] i v w e = absurd (some-ne-none v (sym e))
  weigh-set f (x ∷ xs) zero v w e = let s : f x ≡ f v = ap f (some-injective x v e) in omega arith
  weigh-set f (x ∷ xs) (suc i) v w e = omega (arith, weigh-set f xs i v w e)

  pub weigh-at : (f : A → ℕ) (l : List A) (i : ℕ) (v : A) → get_elem? l i ≡ some v → f v ≤ weigh f l
  weigh-at f [] i v e = absurd (some-ne-none v (sym e))
  weigh-at f (x ∷ xs) zero v e = let s : f x ≡ f v = ap f (some-injective x v e) in omega arith
  weigh-at f (x ∷ xs) (suc i) v e = omega (arith, weigh-at f xs i v e)

  pub weigh-same : (f g : A → ℕ) → ((x : A) → f x ≡ g x) → (l : List A) → weigh f l ≡ weigh g l
  weigh-same f g e [] = refl
  weigh-same f g e (x ∷ xs) = omega (arith, e x, weigh-same f g e xs)

  pub weigh-most : (f g : A → ℕ) (c : ℕ) (l : List A) → Each (λ x. f x ≤ c * g x) l → weigh f l ≤ c * weigh g l
  weigh-most f g c [] e = omega arith
  weigh-most f g c (x ∷ xs) e = let a = e.0 in omega (arith, weigh-most f g c xs e.1)

  pub weigh-less : (f g : A → ℕ) → ((x : A) → f x ≤ g x) → (l : List A) → weigh f l ≤ weigh g l
  weigh-less f g e [] = omega arith
  weigh-less f g e (x ∷ xs) = let a = e x in omega (arith, weigh-less f g e xs)

  pub weigh-plus : (f g h : A → ℕ) → ((x : A) → f x ≡ g x + h x) → (l : List A) → weigh f l ≡ weigh g l + weigh h l
  weigh-plus f g h e [] = omega arith
  weigh-plus f g h e (x ∷ xs) = let a = e x in omega (arith, weigh-plus f g h e xs)

  pub weigh-none : (f : A → ℕ) (l : List A) → weigh f l ≡ 0 → Each (λ x. f x ≡ 0) l
  weigh-none f [] e = tt
  weigh-none f (x ∷ xs) e = (omega arith, weigh-none f xs (omega arith))

  pub weigh-zero : (f : A → ℕ) (l : List A) → Each (λ x. f x ≡ 0) l → weigh f l ≡ 0
  weigh-zero f [] all = refl
  weigh-zero f (x ∷ xs) all = let a = all.0 in omega (arith, weigh-zero f xs all.1)

  pub none-listed : (l : List A) → weigh (λ x. 1) l ≡ 0 → l ≡ []
  none-listed [] e = refl
  none-listed (x ∷ xs) e = absurd (omega arith)

  pub each-both : (P Q : A → Type 0) (l : List A) → Each P l → Each Q l → Each (λ x. P x × Q x) l
  each-both P Q [] a b = tt
  each-both P Q (x ∷ xs) a b = ((a.0, b.0), each-both P Q xs a.1 b.1)

  pub weigh-count : (l : List A) → weigh (λ x. 1) l ≡ length l
  weigh-count [] = refl
  weigh-count (x ∷ xs) = omega (arith, weigh-count xs)

  pub each-at : (P : A → Type 0) (l : List A) (i : ℕ) (v : A) → get_elem? l i ≡ some v → Each P l → P v
  each-at P [] i v e all = absurd (some-ne-none v (sym e))
  each-at P (x ∷ xs) zero v e all = subst P (some-injective x v e) all.0
  each-at P (x ∷ xs) (suc i) v e all = each-at P xs i v e all.1

  pub each-set : (P : A → Type 0) (l : List A) (i : ℕ) (w : A) → Each P l → P w → Each P (set l i w)
  each-set P [] i w all p = tt
  each-set P (x ∷ xs) zero w all p = (p, all.1)
  each-set P (x ∷ xs) (suc i) w all p = (all.0, each-set P xs i w all.1 p)

  pub set-twice : (l : List A) (i : ℕ) (a b : A) → set (set l i a) i b ≡ set l i b
  set-twice [] i a b = refl
  set-twice (x ∷ xs) zero a b = refl
  set-twice (x ∷ xs) (suc i) a b = λ k. x ∷ set-twice xs i a b k

  pub at-within : (l : List A) (i : ℕ) (a : A) → get_elem? l i ≡ some a → i < length l
  at-within [] i a e = absurd (some-ne-none a (sym e))
  at-within (x ∷ xs) zero a e = omega arith
  at-within (x ∷ xs) (suc i) a e = omega (arith, at-within xs i a e)

  pub each-append : (P : A → Type 0) (l m : List A) → Each P l → Each P m → Each P (l ++ m)
  each-append P [] m all more = more
  each-append P (x ∷ xs) m all more = (all.0, each-append P xs m all.1 more)

  pub each-map : (P Q : A → Type 0) (l : List A) → ((x : A) → P x → Q x) → Each P l → Each Q l
  each-map P Q [] f all = tt
  each-map P Q (x ∷ xs) f all = (f x all.0, each-map P Q xs f all.1)

pub upto-none : (h : ℕ → ℕ) (n : ℕ) → ((k : ℕ) → k ≤ n → h k ≡ 0) → upto h n ≡ 0
upto-none h zero none = refl
upto-none h (suc n) none = let a = none (suc n) (omega arith) in omega (arith, upto-none h n (λ k le. none k (omega arith)))

pub upto-count : (n : ℕ) → upto (λ k. 1) n ≡ n
upto-count zero = refl
upto-count (suc n) = omega (arith, upto-count n)

pub under-count : (n : ℕ) → under (λ k. 1) n ≡ n
under-count zero = refl
under-count (suc n) = omega (arith, under-count n)
