-- Members of a list, and of a list that is cut in two.
use Rattle.std.proofs.Common.{◌≡◌, ◌≢◌, inl, inr, ⊎_elim, ◌⊎◌, Bool, true, false, not, List, [], ◌∷◌, ◌++◌, map, refl, ap, subst}
use Rattle.std.specs.List.{AllByRecursion}
use Rattle.cl_merge.specs.Members.{In}

pub in_middle : {A : Type 0} (xs : List A) (x : A) (ys : List A) → In x (xs ++ x ∷ ys)
in_middle [] x ys = inl refl
in_middle (y ∷ xs) x ys = inr (in_middle xs x ys)

pub in_left : {A : Type 0} (x : A) (xs ys : List A) → In x xs → In x (xs ++ ys)
in_left x [] ys h = absurd h
in_left x (z ∷ xs) ys (inl e) = inl e
in_left x (z ∷ xs) ys (inr h) = inr (in_left x xs ys h)

-- a member stands somewhere
pub cut_at : {A : Type 0} (x : A) (xs : List A) → In x xs → (before : List A) × (behind : List A) × (xs ≡ before ++ x ∷ behind)
cut_at x [] h = absurd h
cut_at x (y ∷ ys) (inl e) = ([], ys, ap (λ z. z ∷ ys) e)
cut_at x (y ∷ ys) (inr h) = let c = cut_at x ys h in (y ∷ c.0, c.1, ap (λ z. y ∷ z) c.2)

pub each_in : {A : Type 0} (P : A → Type 0) (x : A) (xs : List A) → AllByRecursion P xs → In x xs → P x
each_in P x [] all h = absurd h
each_in P x (y ∷ ys) all (inl e) = subst P e all.0
each_in P x (y ∷ ys) all (inr h) = each_in P x ys all.1 h

pub in_each : {A : Type 0} (P : A → Type 0) (xs : List A) → ((x : A) → In x xs → P x) → AllByRecursion P xs
in_each P [] f = tt
in_each P (x ∷ xs) f = (f x (inl refl), in_each P xs (λ y h. f y (inr h)))

pub not_differs : (x y : Bool) → x ≡ not y → x ≢ y
not_differs true true e d = cc
not_differs true false e d = cc
not_differs false true e d = cc
not_differs false false e d = cc

pub in_right : {A : Type 0} (x : A) (xs ys : List A) → In x ys → In x (xs ++ ys)
in_right x [] ys h = h
in_right x (z ∷ xs) ys h = inr (in_right x xs ys h)

pub in_append : {A : Type 0} (x : A) (xs ys : List A) → In x (xs ++ ys) → In x xs ⊎ In x ys
in_append x [] ys h = inr h
in_append x (z ∷ xs) ys (inl e) = inl (inl e)
in_append x (z ∷ xs) ys (inr h) = ⊎_elim (λ k. inl (inr k)) (λ k. inr k) (in_append x xs ys h)

pub in_map : {A B : Type 0} (f : A → B) (y : B) (xs : List A) → In y (map f xs) → (x : A) × In x xs × (f x ≡ y)
in_map f y [] h = absurd h
in_map f y (x ∷ xs) (inl e) = (x, inl refl, e)
in_map f y (x ∷ xs) (inr h) = let r = in_map f y xs h in (r.0, inr r.1, r.2)

pub map_in : {A B : Type 0} (f : A → B) (x : A) (xs : List A) → In x xs → In (f x) (map f xs)
map_in f x [] h = absurd h
map_in f x (y ∷ ys) (inl e) = inl (ap f e)
map_in f x (y ∷ ys) (inr h) = inr (map_in f x ys h)
