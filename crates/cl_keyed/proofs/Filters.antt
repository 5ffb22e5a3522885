-- Facts about what a test keeps of a list.
use Rattle.std.proofs.Common.{◌≡◌, ◌+◌, ◌≤◌, Bool, true, false, not, List, [], ◌∷◌, ◌++◌, length, map, filter, ◌⊎◌, inl, inr, refl, sym, ◌∙◌, ap, arith, length-append}
use Rattle.std.proofs.lemmas.Bool.{cases_Bool}
use Rattle.std.proofs.lemmas.List.{append-nil}
use Rattle.std.proofs.lemmas.List.Elements.{filter-append}

module _ {A : Type 0} where
  -- an item that passes is kept
  pub filter-yes : (p : A → Bool) (x : A) (xs : List A) → p x ≡ true → filter p (x ∷ xs) ≡ x ∷ filter p xs
  filter-yes p x xs h = rw h refl

  -- an item that fails is not
  pub filter-no : (p : A → Bool) (x : A) (xs : List A) → p x ≡ false → filter p (x ∷ xs) ≡ filter p xs
  filter-no p x xs h = rw h refl

  -- two tests in either order
  pub filter-swap : (p q : A → Bool) (xs : List A) → filter p (filter q xs) ≡ filter q (filter p xs)
  filter-swap p q [] = refl
  filter-swap p q (x ∷ xs) =
      let rest = filter-swap p q xs in
      elim (cases_Bool (p x)) [
        | inl py ↦
            elim (cases_Bool (q x)) [
              | inl qy ↦ simp (filter-yes p x xs py, filter-yes q x xs qy, filter-yes p x (filter q xs) py, filter-yes q x (filter p xs) qy) (ap (λ ys. x ∷ ys) rest)
              | inr qn ↦ simp (filter-yes p x xs py, filter-no q x xs qn, filter-no q x (filter p xs) qn) rest
            ]
        | inr pn ↦
            elim (cases_Bool (q x)) [
              | inl qy ↦ simp (filter-no p x xs pn, filter-yes q x xs qy, filter-no p x (filter q xs) pn) rest
              | inr qn ↦ simp (filter-no p x xs pn, filter-no q x xs qn) rest
            ]
      ]

  -- no item passes two tests that exclude one another
  pub filter-apart : (p q : A → Bool) → ((x : A) → p x ≡ true → q x ≡ true → ⊥) → (xs : List A) → filter p (filter q xs) ≡ []
  filter-apart p q none [] = refl
  filter-apart p q none (x ∷ xs) =
      elim (cases_Bool (q x)) [
        | inl qy ↦
            elim (cases_Bool (p x)) [
              | inl py ↦ absurd (none x py qy)
              | inr pn ↦ simp (filter-yes q x xs qy, filter-no p x (filter q xs) pn) (filter-apart p q none xs)
            ]
        | inr qn ↦ simp (filter-no q x xs qn) (filter-apart p q none xs)
      ]

  -- what a test keeps is no longer than the list
  pub filter-shorter : (p : A → Bool) (xs : List A) → length (filter p xs) ≤ length xs
  filter-shorter p [] = omega arith
  filter-shorter p (x ∷ xs) =
      let rest = filter-shorter p xs in
      elim (cases_Bool (p x)) [
        | inl py ↦ rw (filter-yes p x xs py) (omega arith)
        | inr pn ↦ rw (filter-no p x xs pn) (omega arith)
      ]

  -- the opposite of a test that keeps nothing keeps all
  pub filter-none : (p : A → Bool) (xs : List A) → filter p xs ≡ [] → filter (λ x. not (p x)) xs ≡ xs
  filter-none p [] none = refl
  filter-none p (x ∷ xs) none =
      elim (cases_Bool (p x)) [
        | inl py ↦ let e = filter-yes p x xs py in cc
        | inr pn ↦
            let rest : filter p xs ≡ [] = sym (filter-no p x xs pn) ∙ none in
            let kept : not (p x) ≡ true = ap not pn in
            filter-yes (λ y. not (p y)) x xs kept ∙ ap (λ ys. x ∷ ys) (filter-none p xs rest)
      ]

  -- a list of no length
  pub empty-list : (xs : List A) → length xs ≤ 0 → xs ≡ []
  empty-list [] h = refl
  empty-list (x ∷ xs) h = absurd (omega arith)

  -- of a list in which one item alone passes, the opposite of the test leaves all but that item
  pub filter-but_one : (p : A → Bool) (xs ys : List A) (x : A) → p x ≡ true → length (filter p (xs ++ x ∷ ys)) ≤ 1 → filter (λ y. not (p y)) (xs ++ x ∷ ys) ≡ xs ++ ys
  filter-but_one p xs ys x pass few =
      let parts : filter p (xs ++ x ∷ ys) ≡ filter p xs ++ x ∷ filter p ys = filter-append p xs (x ∷ ys) ∙ ap (λ zs. filter p xs ++ zs) (filter-yes p x ys pass) in
      let count : length (filter p (xs ++ x ∷ ys)) ≡ length (filter p xs) + (length (filter p ys) + 1) = ap length parts ∙ (length-append (filter p xs) (x ∷ filter p ys) ∙ omega arith) in
      let before : filter p xs ≡ [] = empty-list (filter p xs) (omega arith) in
      let after : filter p ys ≡ [] = empty-list (filter p ys) (omega arith) in
      let fails : not (p x) ≡ false = ap not pass in
      let q : A → Bool = λ y. not (p y) in
      filter-append q xs (x ∷ ys) ∙ (ap (λ zs. zs ++ filter q (x ∷ ys)) (filter-none p xs before) ∙ ap (λ zs. xs ++ zs) (filter-no q x ys fails ∙ filter-none p ys after))

  -- two lists of at most one item together are the same in either order
  pub append-swap : (xs ys : List A) → length (xs ++ ys) ≤ 1 → xs ++ ys ≡ ys ++ xs
  append-swap [] ys few = sym (append-nil ys)
  append-swap (x ∷ xs) [] few = ap (λ zs. x ∷ zs) (append-nil xs)
  append-swap (x ∷ xs) (y ∷ ys) few = absurd (omega (arith, length-append xs (y ∷ ys)))

  -- a list that is empty, or has a last item
  pub last-split : (xs : List A) → (xs ≡ []) ⊎ ((ys : List A) × ((y : A) × (xs ≡ ys ++ y ∷ [])))
  last-split [] = inl refl
  last-split (x ∷ xs) =
      elim (last-split xs) [
        | inl none ↦ inr ([], (x, ap (λ zs. x ∷ zs) none))
        | inr (ys, (y, is)) ↦ inr (x ∷ ys, (y, ap (λ zs. x ∷ zs) is))
      ]

  -- a part of what a test keeps, at its item
  pub filter-split : (p : A → Bool) (xs ys zs : List A) (z : A) → filter p xs ≡ ys ++ z ∷ zs → (us : List A) × ((vs : List A) × ((xs ≡ us ++ z ∷ vs) × ((filter p us ≡ ys) × (filter p vs ≡ zs))))
  filter-split p [] [] zs z h = cc
  filter-split p [] (y ∷ ys) zs z h = cc
  filter-split p (x ∷ xs) [] zs z h =
      elim (cases_Bool (p x)) [
        | inl py ↦
            let e = filter-yes p x xs py in
            let head : x ≡ z = cc in
            let rest : filter p xs ≡ zs = cc in
            ([], (xs, (ap (λ w. w ∷ xs) head, (refl, rest))))
        | inr pn ↦
            let e = filter-no p x xs pn in
            let (us, (vs, (is, (left, right)))) = filter-split p xs [] zs z (sym e ∙ h) in
            (x ∷ us, (vs, (ap (λ ws. x ∷ ws) is, (filter-no p x us pn ∙ left, right))))
      ]
  filter-split p (x ∷ xs) (y ∷ ys) zs z h =
      elim (cases_Bool (p x)) [
        | inl py ↦
            let e = filter-yes p x xs py in
            let head : x ≡ y = cc in
            let rest : filter p xs ≡ ys ++ z ∷ zs = cc in
            let (us, (vs, (is, (left, right)))) = filter-split p xs ys zs z rest in
            (x ∷ us, (vs, (ap (λ ws. x ∷ ws) is, (filter-yes p x us py ∙ cc (left, head), right))))
        | inr pn ↦
            let e = filter-no p x xs pn in
            let (us, (vs, (is, (left, right)))) = filter-split p xs (y ∷ ys) zs z (sym e ∙ h) in
            (x ∷ us, (vs, (ap (λ ws. x ∷ ws) is, (filter-no p x us pn ∙ left, right))))
      ]

-- what a test of views keeps are the views of what the test keeps
pub filter-map : {A B : Type 0} (p : B → Bool) (f : A → B) (xs : List A) → filter p (map f xs) ≡ map f (filter (λ x. p (f x)) xs)
filter-map p f [] = refl
filter-map p f (x ∷ xs) =
    elim (cases_Bool (p (f x))) [
      | inl py ↦ simp (filter-yes p (f x) (map f xs) py, filter-yes (λ y. p (f y)) x xs py) (ap (λ ys. f x ∷ ys) (filter-map p f xs))
      | inr pn ↦ simp (filter-no p (f x) (map f xs) pn, filter-no (λ y. p (f y)) x xs pn) (filter-map p f xs)
    ]
