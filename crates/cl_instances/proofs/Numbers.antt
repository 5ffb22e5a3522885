-- Where no two operations stand at one place, the number of an operation's site is its place among the operations.
use Rattle.std.proofs.Common.{◌≡◌, ◌∙◌, ap, subst, refl, ℕ, suc, Bool, true, false, not, ◌==◌, ◌&&◌, ◌||◌, List, [], ◌∷◌, ◌++◌, length, Some}
use Rattle.std.proofs.lemmas.Bool.{eq-eqb}
use Rattle.std.specs.Prelude.{if◌then◌else◌, slice_get}
use Rattle.cl_listing.specs.Listing.{Entries, Site, Text, site_at}
use Rattle.cl_listing.specs.Listed.{sites_in}
use Rattle.cl_instances.specs.Apart.{is_among, are_apart}

-- the place of a number among others
abbrev number_in : ℕ → List ℕ → ℕ
number_in place [] = 0
number_in place (p ∷ ps) = if place == p then 0 else suc (number_in place ps)

site_number : (place : ℕ) (es : Entries) → site_at place es ≡ number_in place (sites_in es)
site_number place [] = refl
site_number place (Site other ∷ es) = ap (λ n. if place == other then 0 else suc n) (site_number place es)
site_number place (Text bytes ∷ es) = site_number place es

not_true : (a b : Bool) → (not a && b) ≡ true → (a ≡ false) × (b ≡ true)
not_true true b h = absurd cc
not_true false b h = (refl, h)

neither : (a b : Bool) → (a || b) ≡ false → (a ≡ false) × (b ≡ false)
neither true b h = absurd cc
neither false b h = (refl, h)

not_among : (r p : ℕ) (ps qs : List ℕ) → is_among r (ps ++ p ∷ qs) ≡ false → (p == r) ≡ false
not_among r p [] qs h = (neither (p == r) (is_among r qs) h).0
not_among r p (q ∷ ps) qs h = not_among r p ps qs (neither (q == r) (is_among r (ps ++ p ∷ qs)) h).1

same_number : (p : ℕ) → (p == p) ≡ true
same_number p = eq-eqb p p refl

number_found : (p : ℕ) (ps qs : List ℕ) → are_apart (ps ++ p ∷ qs) ≡ true → number_in p (ps ++ p ∷ qs) ≡ length ps
number_found p [] qs h = ap (λ b. if b then 0 else suc (number_in p qs)) (same_number p)
number_found p (r ∷ ps) qs h =
    let two = not_true (is_among r (ps ++ p ∷ qs)) (are_apart (ps ++ p ∷ qs)) h in
    ap (λ b. if b then 0 else suc (number_in p (ps ++ p ∷ qs))) (not_among r p ps qs two.0) ∙ ap suc (number_found p ps qs two.1)

pub site_found : (es : Entries) (p : ℕ) (ps qs : List ℕ) → sites_in es ≡ ps ++ p ∷ qs → are_apart (sites_in es) ≡ true → site_at p es ≡ length ps
site_found es p ps qs is apart = site_number p es ∙ (ap (number_in p) is ∙ number_found p ps qs (subst (λ l. are_apart l ≡ true) is apart))

pub got_behind : {A : Type 0} (xs : List A) (a : A) (ys : List A) → slice_get (xs ++ a ∷ ys) (length xs) ≡ Some a
got_behind [] a ys = refl
got_behind (x ∷ xs) a ys = got_behind xs a ys
