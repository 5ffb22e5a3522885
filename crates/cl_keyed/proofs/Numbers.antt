-- Facts about rows in order of their numbers.
use Rattle.std.proofs.Common.{◌≡◌, ℕ, zero, suc, ◌<◌, ◌≤◌, Bool, true, false, List, [], ◌∷◌, ◌++◌, length, filter, inl, inr, refl, sym, ◌∙◌, ap, arith, length-append}
use Rattle.std.proofs.lemmas.Bool.{cases_Bool}
use Rattle.std.proofs.lemmas.List.Elements.{filter-append}
use Rattle.std.proofs.lemmas.Bool.Decides.{Decides-eqb}
use Rattle.cl_keyed.proofs.Filters.{filter-yes, filter-no, filter-swap}
use Rattle.cl_keyed.specs.Rows.{Row, has_number, by_number}

-- a row has its own number
pub has_number-own : (r : Row) (n : ℕ) → r.number ≡ n → has_number n r ≡ true
has_number-own r n is = (Decides-eqb r.number n).1 is

-- and no other
pub has_number-other : (r : Row) (n : ℕ) → n < r.number → has_number n r ≡ false
has_number-other r n lt =
    elim (cases_Bool (has_number n r)) [
      | inl same ↦ let is : r.number ≡ n = (Decides-eqb r.number n).0 same in absurd (omega arith)
      | inr other ↦ other
    ]

-- the number that a row has
pub has_number-is : (r : Row) (n : ℕ) → has_number n r ≡ true → r.number ≡ n
has_number-is r n same = (Decides-eqb r.number n).0 same

-- a row has no other number
pub has_number-not : (r : Row) (n : ℕ) → (r.number ≡ n → ⊥) → has_number n r ≡ false
has_number-not r n apart =
    elim (cases_Bool (has_number n r)) [ inl same ↦ absurd (apart (has_number-is r n same)) | inr other ↦ other ]

-- a test commutes with the order
pub filter-by_number : (p : Row → Bool) (n : ℕ) (rows : List Row) → filter p (by_number n rows) ≡ by_number n (filter p rows)
filter-by_number p zero rows = refl
filter-by_number p (suc n) rows =
    filter-append p (by_number n rows) (filter (has_number n) rows) ∙ (ap (λ xs. xs ++ filter p (filter (has_number n) rows)) (filter-by_number p n rows) ∙ ap (λ xs. by_number n (filter p rows) ++ xs) (filter-swap p (has_number n) rows))

-- two lists of rows that have, of each number, the same rows
pub by_number-agree : (n : ℕ) (rows others : List Row) → ((i : ℕ) → filter (has_number i) rows ≡ filter (has_number i) others) → by_number n rows ≡ by_number n others
by_number-agree zero rows others agree = refl
by_number-agree (suc n) rows others agree =
    ap (λ xs. xs ++ filter (has_number n) rows) (by_number-agree n rows others agree) ∙ ap (λ xs. by_number n others ++ xs) (agree n)

-- no rows
pub by_number-nil : (n : ℕ) → by_number n [] ≡ []
by_number-nil zero = refl
by_number-nil (suc n) = ap (λ xs. xs ++ []) (by_number-nil n)

-- a row whose number is n or more is not among those below n
pub by_number-beyond : (n : ℕ) (xs ys : List Row) (r : Row) → n ≤ r.number → by_number n (xs ++ r ∷ ys) ≡ by_number n (xs ++ ys)
by_number-beyond zero xs ys r h = refl
by_number-beyond (suc n) xs ys r h =
    let p = has_number n in
    let below : n ≤ r.number = omega arith in
    let fails : p r ≡ false = has_number-other r n (omega arith) in
    let same : filter p (xs ++ r ∷ ys) ≡ filter p (xs ++ ys) = filter-append p xs (r ∷ ys) ∙ (ap (λ zs. filter p xs ++ zs) (filter-no p r ys fails) ∙ sym (filter-append p xs ys)) in
    ap (λ zs. zs ++ filter p (xs ++ r ∷ ys)) (by_number-beyond n xs ys r below) ∙ ap (λ zs. by_number n (xs ++ ys) ++ zs) same

-- a list that ends an empty one is empty
pub empty-left : {A : Type 0} (xs ys : List A) → xs ++ ys ≡ [] → xs ≡ []
empty-left [] ys h = refl
empty-left (x ∷ xs) ys h = cc

-- where no row has the number n or more, a row of that number comes last
pub by_number-push : (n : ℕ) (xs ys : List Row) (r : Row) → r.number ≡ n → filter (has_number n) (xs ++ ys) ≡ [] → by_number (suc n) (xs ++ r ∷ ys) ≡ by_number n (xs ++ ys) ++ r ∷ []
by_number-push n xs ys r is none =
    let p = has_number n in
    let pass : p r ≡ true = has_number-own r n is in
    let both : filter p xs ++ filter p ys ≡ [] = sym (filter-append p xs ys) ∙ none in
    let left : filter p xs ≡ [] = empty-left (filter p xs) (filter p ys) both in
    let right : filter p ys ≡ [] = ap (λ zs. zs ++ filter p ys) (sym left) ∙ both in
    let one : filter p (xs ++ r ∷ ys) ≡ r ∷ [] = filter-append p xs (r ∷ ys) ∙ (ap (λ zs. zs ++ filter p (r ∷ ys)) left ∙ (filter-yes p r ys pass ∙ ap (λ zs. r ∷ zs) right)) in
    ap (λ zs. zs ++ filter p (xs ++ r ∷ ys)) (by_number-beyond n xs ys r (omega arith)) ∙ ap (λ zs. by_number n (xs ++ ys) ++ zs) one

-- of at most one row there is at most one in order
pub by_number-few : (n : ℕ) (rows : List Row) → length rows ≤ 1 → length (by_number n rows) ≤ 1
by_number-few n [] few = omega (arith, ap length (by_number-nil n))
by_number-few n (r ∷ s ∷ rows) few = absurd (omega arith)
by_number-few zero (r ∷ []) few = omega arith
by_number-few (suc n) (r ∷ []) few =
    elim (cases_Bool (has_number n r)) [
      | inl same ↦
          let is : r.number ≡ n = (Decides-eqb r.number n).0 same in
          let none : by_number n (r ∷ []) ≡ [] = by_number-beyond n [] [] r (omega arith) ∙ by_number-nil n in
          let one : filter (has_number n) (r ∷ []) ≡ r ∷ [] = filter-yes (has_number n) r [] same in
          omega (arith, ap length none, ap length one, length-append (by_number n (r ∷ [])) (filter (has_number n) (r ∷ [])))
      | inr other ↦
          let none : filter (has_number n) (r ∷ []) ≡ [] = filter-no (has_number n) r [] other in
          omega (arith, by_number-few n (r ∷ []) few, ap length none, length-append (by_number n (r ∷ [])) (filter (has_number n) (r ∷ [])))
    ]
