-- The sites of the sets of a program: none is of two, and two sites of one number are of one set.
use Rattle.std.proofs.Common.{◌≡◌, ◌≢◌, ◌⊎◌, inl, inr, ℕ, zero, suc, ◌+◌, Bool, true, false, ◌||◌, List, [], ◌∷◌, map, get_or, Some, refl, sym, ap, subst, ◌∙◌, arith, eq-eqb}
use Rattle.std.specs.Prelude.{◌==◌, slice_get, if◌then◌else◌}
use Rattle.std.proofs.lemmas.Bool.Decides.{Decides-eqb}
use Rattle.cl_model.specs.Meaning.{Meaning, sites_of}
use Rattle.cl_sig.specs.Numbers.{count_of}
use Rattle.cl_sig.specs.Shapes.{sites_from, sites_of_sets}
use Rattle.std.specs.List.{range_with_len}
use Rattle.cl_value.specs.Acts.{is_site_of}

abbrev pub HasNumber : List ℕ → ℕ → ℕ → Type 0
HasNumber numbers site set = slice_get numbers site ≡ Some set

-- a site of a set, counted from a first site, has the set's number
has_number : (first : ℕ) (numbers : List ℕ) (set site : ℕ) → is_site_of (sites_from first numbers set) site ≡ true → (k : ℕ) × (site ≡ first + k) × HasNumber numbers k set
has_number first [] set site h = absurd cc
has_number first (n ∷ numbers) set site h = by_number (n == set) refl h (has_number (first + 1) numbers set site)
  where
    later : ((k : ℕ) × (site ≡ first + 1 + k) × HasNumber numbers k set) → (k : ℕ) × (site ≡ first + k) × HasNumber (n ∷ numbers) k set
    later r = let e = r.1 in (suc r.0, omega arith, r.2)

    here : (b : Bool) → (first == site) ≡ b → n ≡ set → b || is_site_of (sites_from (first + 1) numbers set) site ≡ true → (is_site_of (sites_from (first + 1) numbers set) site ≡ true → (k : ℕ) × (site ≡ first + 1 + k) × HasNumber numbers k set) → (k : ℕ) × (site ≡ first + k) × HasNumber (n ∷ numbers) k set
    here true e same h ih = let f = (Decides-eqb first site).0 e in (0, omega arith, ap (λ m. Some m) same)
    here false e same h ih = later (ih h)

    by_number : (b : Bool) → (n == set) ≡ b → is_site_of (if b then first ∷ sites_from (first + 1) numbers set else sites_from (first + 1) numbers set) site ≡ true → (is_site_of (sites_from (first + 1) numbers set) site ≡ true → (k : ℕ) × (site ≡ first + 1 + k) × HasNumber numbers k set) → (k : ℕ) × (site ≡ first + k) × HasNumber (n ∷ numbers) k set
    by_number true e h ih = here (first == site) refl ((Decides-eqb n set).0 e) h ih
    by_number false e h ih = later (ih h)

-- and the other way round
is_site : (first : ℕ) (numbers : List ℕ) (set k : ℕ) → HasNumber numbers k set → is_site_of (sites_from first numbers set) (first + k) ≡ true
is_site first [] set k h = absurd cc
is_site first (n ∷ numbers) set zero h =
    let same : n ≡ set = cc in
    let e : first ≡ first + 0 = omega arith in
    ap (λ b. is_site_of (if b then first ∷ sites_from (first + 1) numbers set else sites_from (first + 1) numbers set) (first + 0)) (eq-eqb n set same)
    ∙ ap (λ b. b || is_site_of (sites_from (first + 1) numbers set) (first + 0)) (eq-eqb first (first + 0) e)
is_site first (n ∷ numbers) set (suc k) h =
    let e : first + 1 + k ≡ first + suc k = omega arith in
    by_number (n == set) (subst (λ x. is_site_of (sites_from (first + 1) numbers set) x ≡ true) e (is_site (first + 1) numbers set k h))
  where
    or_true : (b c : Bool) → c ≡ true → b || c ≡ true
    or_true true c e = refl
    or_true false c e = e

    by_number : (b : Bool) → is_site_of (sites_from (first + 1) numbers set) (first + suc k) ≡ true → is_site_of (if b then first ∷ sites_from (first + 1) numbers set else sites_from (first + 1) numbers set) (first + suc k) ≡ true
    by_number true ih = or_true (first == first + suc k) (is_site_of (sites_from (first + 1) numbers set) (first + suc k)) ih
    by_number false ih = ih

pub numbered : (numbers : List ℕ) (set site : ℕ) → is_site_of (sites_from 0 numbers set) site ≡ true → HasNumber numbers site set
numbered numbers set site h = let r = has_number 0 numbers set site h in subst (λ x. HasNumber numbers x set) (let e = r.1 in omega arith) r.2

pub sited : (numbers : List ℕ) (set site : ℕ) → HasNumber numbers site set → is_site_of (sites_from 0 numbers set) site ≡ true
sited numbers set site h = subst (λ x. is_site_of (sites_from 0 numbers set) x ≡ true) (omega arith) (is_site 0 numbers set site h)

-- the sites at a number are those of its set, or none
abbrev pub AreOf : List ℕ → ℕ → List ℕ → Type 0
AreOf numbers set sites = (sites ≡ sites_from 0 numbers set) ⊎ (sites ≡ [])

sites_at : (numbers : List ℕ) (n count i : ℕ) → AreOf numbers (n + i) (get_or (map (sites_from 0 numbers) (range_with_len n count)) i [])
sites_at numbers n zero i = inr refl
sites_at numbers n (suc count) zero = inl (ap (sites_from 0 numbers) (omega arith))
sites_at numbers n (suc count) (suc i) = subst (λ k. AreOf numbers k (get_or (map (sites_from 0 numbers) (range_with_len (n + 1) count)) i [])) (omega arith) (sites_at numbers (n + 1) count i)

module _ (meaning : Meaning) (numbers : List ℕ) (are : meaning.sets ≡ sites_of_sets numbers) where
  sites_are : (set : ℕ) → AreOf numbers set (sites_of meaning set)
  sites_are set = subst (λ l. AreOf numbers set (get_or l set [])) (sym are) (subst (λ k. AreOf numbers k (get_or (sites_of_sets numbers) set [])) (omega arith) (sites_at numbers 0 (count_of numbers) set))

  pub number_of : (set site : ℕ) → is_site_of (sites_of meaning set) site ≡ true → HasNumber numbers site set
  number_of set site h = by_place (sites_are set)
    where
      by_place : (sites_of meaning set ≡ sites_from 0 numbers set) ⊎ (sites_of meaning set ≡ []) → HasNumber numbers site set
      by_place (inl e) = numbered numbers set site (subst (λ s. is_site_of s site ≡ true) e h)
      by_place (inr e) = absurd (let k = subst (λ s. is_site_of s site ≡ true) e h in cc)

  pub disjoint : (set other site : ℕ) → is_site_of (sites_of meaning set) site ≡ true → is_site_of (sites_of meaning other) site ≡ true → set ≡ other
  disjoint set other site h k = let e : HasNumber numbers site set = number_of set site h in let f : HasNumber numbers site other = number_of other site k in cc

  -- sites of one number are all of a set, or none
  one_way : (set a b : ℕ) → slice_get numbers a ≡ slice_get numbers b → sites_of meaning set ≡ sites_from 0 numbers set → is_site_of (sites_of meaning set) a ≡ true → is_site_of (sites_of meaning set) b ≡ true
  one_way set a b same e h = subst (λ s. is_site_of s b ≡ true) (sym e) (sited numbers set b (sym same ∙ number_of set a h))

  alike : (x y : Bool) → (x ≡ true → y ≡ true) → (y ≡ true → x ≡ true) → x ≡ y
  alike true y f g = sym (f refl)
  alike false true f g = g refl
  alike false false f g = refl

  pub two_numbers : (set a b : ℕ) → is_site_of (sites_of meaning set) a ≢ is_site_of (sites_of meaning set) b → slice_get numbers a ≢ slice_get numbers b
  two_numbers set a b ne same = ne (by_place (sites_are set))
    where
      by_place : (sites_of meaning set ≡ sites_from 0 numbers set) ⊎ (sites_of meaning set ≡ []) → is_site_of (sites_of meaning set) a ≡ is_site_of (sites_of meaning set) b
      by_place (inl e) = alike (is_site_of (sites_of meaning set) a) (is_site_of (sites_of meaning set) b) (one_way set a b same e) (one_way set b a (sym same) e)
      by_place (inr e) = ap (λ s. is_site_of s a) e ∙ sym (ap (λ s. is_site_of s b) e)
