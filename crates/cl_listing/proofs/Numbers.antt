-- Numbers of operations and of texts in their tables.
use Rattle.std.proofs.Common.{◌≡◌, ◌∙◌, ap, sym, refl, ℕ, suc, ◌+◌, ◌≤◌, Bool, true, false, cond, not, ◌||◌, ◌==◌, List, [], ◌∷◌, ◌++◌, map, length, Option, None, Some, is_some, true≢false, arith, inl, inr, if◌then◌else◌, position}
use Rattle.std.specs.Prelude.{nat_eq, nat_lt, option_map, unwrap_or}
use Rattle.std.specs.List.{list_any, position_or_len}
use Rattle.std.specs.Cmp.Lexicographic.{pointwise}
use Rattle.std.proofs.lemmas.Bool.{cases_Bool, eqb-true, eq-eqb}
use denote.Ref.{Bor}
use Rattle.cl_listing.specs.Listing.{Site, Text, Entries, site_at, is_among, text_number}
use Rattle.cl_listing.specs.Listed.{sites_in, has_site}
use Rattle.cl_listing.specs.Tables.{bytes_of, number_of}

-- ---- a number more

more_by : (o : Option ℕ) (d : ℕ) → unwrap_or (option_map suc o) (suc d) ≡ suc (unwrap_or o d)
more_by None d = refl
more_by (Some n) d = refl

kept_by : (b : Bool) (o : Option ℕ) (d : ℕ) → (if b then Some 0 else Some (suc (unwrap_or o d))) ≡ Some (unwrap_or (if b then Some 0 else option_map suc o) (suc d))
kept_by true o d = refl
kept_by false o d = ap (λ n. Some n) (sym (more_by o d))

-- a place that is put last has its first number
own_number : (q : ℕ) (xs : List ℕ) → number_of q (xs ++ q ∷ []) ≡ Some (unwrap_or (number_of q xs) (length xs))
own_number q [] = ap (λ b. if b then Some 0 else None) (eq-eqb q q refl)
own_number q (x ∷ xs) = ap (λ o. if q == x then Some 0 else option_map suc o) (own_number q xs) ∙ kept_by (q == x) (number_of q xs) (length xs)

-- and the others have theirs
other_number : (q p : ℕ) (xs : List ℕ) → (q == p) ≡ false → number_of q (xs ++ p ∷ []) ≡ number_of q xs
other_number q p [] h = ap (λ b. if b then Some 0 else None) h
other_number q p (x ∷ xs) h = ap (λ o. if q == x then Some 0 else option_map suc o) (other_number q p xs h)

turned : (p q : ℕ) → (p == q) ≡ false → (q == p) ≡ false
turned p q h =
    elim (cases_Bool (q == p)) [
      | inl same ↦ absurd (true≢false (sym (eq-eqb p q (sym (eqb-true q p same))) ∙ h))
      | inr other ↦ other
    ]

pub numbered : (p : ℕ) (xs ys : List ℕ) (n : ℕ) (f g : ℕ → Option ℕ) → ys ≡ xs ++ p ∷ [] → n ≡ length xs → ((q : ℕ) → f q ≡ number_of q xs) →
    ((q : ℕ) → g q ≡ cond (nat_eq p q) (Some (unwrap_or (f p) n)) (f q)) → (q : ℕ) → g q ≡ number_of q ys
numbered p xs ys n f g is long finds updates q = by (nat_eq p q) refl
  where
    by : (b : Bool) → nat_eq p q ≡ b → g q ≡ number_of q ys
    by true same =
        updates q
        ∙ (ap (λ b. cond b (Some (unwrap_or (f p) n)) (f q)) same
        ∙ (ap (λ o. Some (unwrap_or o n)) (finds p)
        ∙ (ap (λ m. Some (unwrap_or (number_of p xs) m)) long
        ∙ (sym (own_number p xs) ∙ (ap (λ z. number_of z (xs ++ p ∷ [])) (eqb-true p q same) ∙ ap (number_of q) (sym is))))))
    by false other = updates q ∙ (ap (λ b. cond b (Some (unwrap_or (f p) n)) (f q)) other ∙ (finds q ∙ (sym (other_number q p xs (turned p q other)) ∙ ap (number_of q) (sym is))))

-- ---- operations

there_by : (b c : Bool) (o : Option ℕ) → is_some o ≡ c → is_some (if b then Some 0 else option_map suc o) ≡ (if b then true else c)
there_by true c o h = refl
there_by false c None h = h
there_by false c (Some n) h = h

site_there : (place : ℕ) (es : Entries) → is_some (number_of place (sites_in es)) ≡ has_site place es
site_there place [] = refl
site_there place (Site other ∷ es) = there_by (place == other) (has_site place es) (number_of place (sites_in es)) (site_there place es)
site_there place (Text bytes ∷ es) = site_there place es

number_by : (b : Bool) (o : Option ℕ) (d n : ℕ) → unwrap_or o d ≡ n → unwrap_or (if b then Some 0 else option_map suc o) (suc d) ≡ (if b then 0 else suc n)
number_by true o d n h = refl
number_by false o d n h = more_by o d ∙ ap suc h

site_number : (place : ℕ) (es : Entries) → unwrap_or (number_of place (sites_in es)) (length (sites_in es)) ≡ site_at place es
site_number place [] = refl
site_number place (Site other ∷ es) = number_by (place == other) (number_of place (sites_in es)) (length (sites_in es)) (site_at place es) (site_number place es)
site_number place (Text bytes ∷ es) = site_number place es

pub finds_site : (place : ℕ) (es : Entries) (sites : List ℕ) (r : Option ℕ) → r ≡ number_of place sites → sites ≡ sites_in es → is_some r ≡ has_site place es
finds_site place es sites r hr hs = ap is_some (hr ∙ ap (number_of place) hs) ∙ site_there place es

pub numbers_site : (place : ℕ) (es : Entries) (sites : List ℕ) (r : Option ℕ) → r ≡ number_of place sites → sites ≡ sites_in es → unwrap_or r (length sites) ≡ site_at place es
numbers_site place es sites r hr hs = ap (λ o. unwrap_or o (length sites)) hr ∙ (ap (λ ss. unwrap_or (number_of place ss) (length ss)) hs ∙ site_number place es)

-- ---- texts

either : (b c d : Bool) → c ≡ d → (b || c) ≡ (if b then true else d)
either true c d h = refl
either false c d h = h

pub among_is : (bytes : List ℕ) (ks : List (Bor (List ℕ))) → list_any (λ k. pointwise nat_eq bytes k.now) ks ≡ is_among bytes (map bytes_of ks)
among_is bytes [] = refl
among_is bytes (k ∷ ks) = either (pointwise nat_eq bytes k.now) (list_any (λ x. pointwise nat_eq bytes x.now) ks) (is_among bytes (map bytes_of ks)) (among_is bytes ks)

map_append : {A B : Type 0} (f : A → B) (xs ys : List A) → map f (xs ++ ys) ≡ map f xs ++ map f ys
map_append f [] ys = refl
map_append f (x ∷ xs) ys = ap (λ zs. f x ∷ zs) (map_append f xs ys)

-- a text is put last, unless it is there
pub text_added : (key : Bor (List ℕ)) (ks new : List (Bor (List ℕ))) → new ≡ (if list_any (λ k. pointwise nat_eq key.now k.now) ks then ks else ks ++ key ∷ []) →
    map bytes_of new ≡ (if is_among key.now (map bytes_of ks) then map bytes_of ks else map bytes_of ks ++ key.now ∷ [])
text_added key ks new is = ap (map bytes_of) is ∙ (ap (λ b. map bytes_of (if b then ks else ks ++ key ∷ [])) (among_is key.now ks) ∙ by (is_among key.now (map bytes_of ks)))
  where
    by : (b : Bool) → map bytes_of (if b then ks else ks ++ key ∷ []) ≡ (if b then map bytes_of ks else map bytes_of ks ++ key.now ∷ [])
    by true = refl
    by false = map_append bytes_of ks (key ∷ [])

place_by : (b : Bool) (n m : ℕ) → n ≡ m → cond (not b) (1 + n) 0 ≡ (if b then 0 else suc m)
place_by true n m h = refl
place_by false n m h = omega (arith, h)

place_is : (bytes : List ℕ) (ks : List (Bor (List ℕ))) → position_or_len (λ k. pointwise nat_eq bytes k.now) ks ≡ text_number bytes (map bytes_of ks)
place_is bytes [] = refl
place_is bytes (k ∷ ks) = place_by (pointwise nat_eq bytes k.now) (position_or_len (λ x. pointwise nat_eq bytes x.now) ks) (text_number bytes (map bytes_of ks)) (place_is bytes ks)

within_by : (b : Bool) (n m : ℕ) → n ≤ m → (if b then 0 else suc n) ≤ suc m
within_by true n m h = omega arith
within_by false n m h = omega (arith, h)

text_within : (bytes : List ℕ) (ts : List (List ℕ)) → text_number bytes ts ≤ length ts
text_within bytes [] = omega arith
text_within bytes (t ∷ ts) = within_by (pointwise nat_eq bytes t) (text_number bytes ts) (length ts) (text_within bytes ts)

map_length : {A B : Type 0} (f : A → B) (xs : List A) → length (map f xs) ≡ length xs
map_length f [] = refl
map_length f (x ∷ xs) = ap suc (map_length f xs)

or_all : (n m : ℕ) → n ≤ m → unwrap_or (cond (nat_lt n m) (Some n) None) m ≡ n
or_all n m h = by (nat_lt n m) refl
  where
    by : (b : Bool) → nat_lt n m ≡ b → unwrap_or (cond b (Some n) None) m ≡ n
    by true e = refl
    by false e = grind (arith, e, h)

pub numbers_text : (bytes : List ℕ) (ks : List (Bor (List ℕ))) (r : Option ℕ) → r ≡ position (λ k. pointwise nat_eq bytes k.now) ks → unwrap_or r (length (map bytes_of ks)) ≡ text_number bytes (map bytes_of ks)
numbers_text bytes ks r hr =
    let n = text_number bytes (map bytes_of ks) in
    ap (λ o. unwrap_or o (length (map bytes_of ks))) (hr ∙ (ap (λ p. cond (nat_lt p (length ks)) (Some p) None) (place_is bytes ks) ∙ ap (λ m. cond (nat_lt n m) (Some n) None) (sym (map_length bytes_of ks))))
    ∙ or_all n (length (map bytes_of ks)) (text_within bytes (map bytes_of ks))
