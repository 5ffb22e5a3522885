-- The names of the reports, in order, are 0 and the names that the acts make.
use Rattle.std.proofs.Common.{◌≡◌, inl, inr, ℕ, ◌+◌, ◌<◌, ◌≤◌, Bool, true, false, List, [], ◌∷◌, refl, sym, arith}
use Rattle.std.specs.Prelude.{if◌then◌else◌}
use Rattle.std.specs.List.{AllByRecursion}
use Rattle.cl_value.specs.Acts.{is_eval, names_made}
use Rattle.cl_value.specs.Plain.{PlainAct}
use Rattle.cl_value.specs.Tickets.{NumberedFrom}
use Rattle.cl_merge.specs.Members.{In}
use Rattle.cl_merge.proofs.Members.{each_in, in_each}
use Rattle.cl_joined.specs.Joined.{NumbersRise}

-- rising lists with the same members are equal
pub rising_same : (xs ys : List ℕ) → NumbersRise xs → NumbersRise ys → ((x : ℕ) → In x xs → In x ys) → ((x : ℕ) → In x ys → In x xs) → xs ≡ ys
rising_same [] [] r s f g = refl
rising_same [] (y ∷ ys) r s f g = absurd (g y (inl refl))
rising_same (x ∷ xs) [] r s f g = absurd (f x (inl refl))
rising_same (x ∷ xs) (y ∷ ys) r s f g =
    let same : x ≡ y = heads (f x (inl refl)) (g y (inl refl)) in
    let rest : xs ≡ ys = rising_same xs ys r.1 s.1 (λ k h. behind x y xs ys same r.0 k h (f k (inr h))) (λ k h. behind y x ys xs (sym same) s.0 k h (g k (inr h))) in
    λ i. same i ∷ rest i
  where
    heads : In x (y ∷ ys) → In y (x ∷ xs) → x ≡ y
    heads (inl e) h = sym e
    heads (inr k) (inl e) = e
    heads (inr k) (inr h) = absurd (let a = each_in (λ later. y < later) x ys s.0 k in let b = each_in (λ later. x < later) y xs r.0 h in omega arith)

    behind : (a b : ℕ) (as' bs : List ℕ) → a ≡ b → AllByRecursion (λ later. a < later) as' → (k : ℕ) → In k as' → In k (b ∷ bs) → In k bs
    behind a b as' bs e all k h (inl p) = absurd (let lt = each_in (λ later. a < later) k as' all h in omega arith)
    behind a b as' bs e all k h (inr j) = j

made_from : (n : ℕ) (acts : List PlainAct) → NumberedFrom n acts → (x : ℕ) → In x (names_made acts) → n ≤ x
made_from n [] h x k = absurd k
made_from n (a ∷ acts) h x k = by_test (is_eval a.what) (made_from (n + 1) acts h.1 x) k
  where
    by_test : (b : Bool) → (In x (names_made acts) → n + 1 ≤ x) → In x (if b then a.ticket ∷ names_made acts else names_made acts) → n ≤ x
    by_test true ih (inl e) = let t = h.0 in omega arith
    by_test true ih (inr j) = let le = ih j in omega arith
    by_test false ih j = let le = ih j in omega arith

made_rise : (n : ℕ) (acts : List PlainAct) → NumberedFrom n acts → NumbersRise (names_made acts)
made_rise n [] h = tt
made_rise n (a ∷ acts) h = by_test (is_eval a.what) (made_rise (n + 1) acts h.1)
  where
    by_test : (b : Bool) → NumbersRise (names_made acts) → NumbersRise (if b then a.ticket ∷ names_made acts else names_made acts)
    by_test true ih = (in_each (λ later. a.ticket < later) (names_made acts) (λ x k. let le = made_from (n + 1) acts h.1 x k in let t = h.0 in omega arith), ih)
    by_test false ih = ih

-- 0 and the names that numbered acts make rise
pub all_rise : (acts : List PlainAct) → NumberedFrom 1 acts → NumbersRise (0 ∷ names_made acts)
all_rise acts h = (in_each (λ later. 0 < later) (names_made acts) (λ x k. made_from 1 acts h x k), made_rise 1 acts h)
