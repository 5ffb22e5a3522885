-- What matching and sameness of tuples say.
use Rattle.std.proofs.Common.{◌≡◌, ℕ, suc, Bool, true, false, ◌&&◌, List, [], ◌∷◌, Option, Some, None, refl, sym, ap, ◌∙◌}
use Rattle.std.specs.Prelude.{slice_get, option_map, option_and_then}
use Rattle.std.proofs.lemmas.Bool.Decides.{Decides-int_eq, Decides-eqb}
use Rattle.cl_value.specs.Matching.{same_value, same_tuple, matches}
use Rattle.cl_value.specs.Replay.{first_match, without_place, without_first, found}
use Rattle.cl_value.specs.declared.value.Value.{Value}
use Rattle.cl_value.specs.declared.value.Value.TheVariants as values
use Rattle.cl_value.specs.declared.template.Slot.{Slot}

pub both : (a b : Bool) → a && b ≡ true → (a ≡ true) × (b ≡ true)
both true b h = (refl, h)
both false b h = cc

pub same_value_refl : (v : Value) → same_value v v ≡ true
same_value_refl (values.Int n) = (Decides-int_eq n n).1 refl
same_value_refl (values.Long n) = (Decides-int_eq n n).1 refl
same_value_refl (values.Char n) = (Decides-eqb n n).1 refl
same_value_refl (values.Text n) = (Decides-eqb n n).1 refl

pub same_value_is : (v w : Value) → same_value v w ≡ true → v ≡ w
same_value_is (values.Int a) (values.Int b) h = ap (λ x. values.Int x) ((Decides-int_eq a b).0 h)
same_value_is (values.Long a) (values.Long b) h = ap (λ x. values.Long x) ((Decides-int_eq a b).0 h)
same_value_is (values.Char a) (values.Char b) h = ap (λ x. values.Char x) ((Decides-eqb a b).0 h)
same_value_is (values.Text a) (values.Text b) h = ap (λ x. values.Text x) ((Decides-eqb a b).0 h)
same_value_is _ _ h = cc

pub same_tuple_refl : (t : List Value) → same_tuple t t ≡ true
same_tuple_refl [] = refl
same_tuple_refl (v ∷ vs) = rw (same_value_refl v) (same_tuple_refl vs)

pub same_tuple_is : (t u : List Value) → same_tuple t u ≡ true → t ≡ u
same_tuple_is [] [] h = refl
same_tuple_is (v ∷ vs) (w ∷ ws) h =
    let parts = both (same_value v w) (same_tuple vs ws) h in
    let head = same_value_is v w parts.0 in
    let rest = same_tuple_is vs ws parts.1 in
    cc
same_tuple_is [] (w ∷ ws) h = cc
same_tuple_is (v ∷ vs) [] h = cc

-- the first match of a list that begins with one
pub found_here : (u : List Value) (us : List (List Value)) (m : List Slot) → matches m u ≡ true → found (u ∷ us) m ≡ Some u
found_here u us m e = rw e refl

at_next : (u : List Value) (us : List (List Value)) (o : Option ℕ) → option_and_then (slice_get (u ∷ us)) (option_map suc o) ≡ option_and_then (slice_get us) o
at_next u us None = refl
at_next u us (Some i) = refl

-- the first match of a list that doesn't begin with one
pub found_later : (u : List Value) (us : List (List Value)) (m : List Slot) → matches m u ≡ false → found (u ∷ us) m ≡ found us m
found_later u us m e = rw e (at_next u us (first_match us m))

pub without_here : (u : List Value) (us : List (List Value)) (m : List Slot) → matches m u ≡ true → without_first (u ∷ us) m ≡ us
without_here u us m e = rw e refl

without_next : (u : List Value) (us : List (List Value)) (o : Option ℕ) → without_place (u ∷ us) (option_map suc o) ≡ u ∷ without_place us o
without_next u us None = refl
without_next u us (Some i) = refl

pub without_later : (u : List Value) (us : List (List Value)) (m : List Slot) → matches m u ≡ false → without_first (u ∷ us) m ≡ u ∷ without_first us m
without_later u us m e = rw e (without_next u us (first_match us m))

pub first_here : (u : List Value) (us : List (List Value)) (m : List Slot) → matches m u ≡ true → first_match (u ∷ us) m ≡ Some 0
first_here u us m e = rw e refl

pub first_later : (u : List Value) (us : List (List Value)) (m : List Slot) → matches m u ≡ false → first_match (u ∷ us) m ≡ option_map suc (first_match us m)
first_later u us m e = rw e refl

-- a first match is a tuple that matches
pub found_matches : (ts : List (List Value)) (m : List Slot) (t : List Value) → found ts m ≡ Some t → matches m t ≡ true
found_matches [] m t h = cc
found_matches (u ∷ us) m t h = by_head (matches m u) refl (found_matches us m t)
  where
    by_head : (b : Bool) → matches m u ≡ b → (found us m ≡ Some t → matches m t ≡ true) → matches m t ≡ true
    by_head true e later = let here = found_here u us m e in let same : u ≡ t = cc in cc
    by_head false e later = later (sym (found_later u us m e) ∙ h)

-- where there is no first match, no tuple of the list matches
pub first_none_later : (u : List Value) (us : List (List Value)) (m : List Slot) → first_match (u ∷ us) m ≡ None → (matches m u ≡ false) × (first_match us m ≡ None)
first_none_later u us m h = by_head (matches m u) refl
  where
    none_of : (o : Option ℕ) → option_map suc o ≡ None → o ≡ None
    none_of None h = refl
    none_of (Some i) h = cc

    by_head : (b : Bool) → matches m u ≡ b → (matches m u ≡ false) × (first_match us m ≡ None)
    by_head true e = let here = first_here u us m e in cc
    by_head false e = (e, none_of (first_match us m) (sym (first_later u us m e) ∙ h))
