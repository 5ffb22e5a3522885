-- The first match of a list, and the first match of what a test keeps of it.
use Rattle.std.proofs.Common.{◌≡◌, ℕ, suc, Bool, true, false, List, [], ◌∷◌, ◌++◌, map, filter, Option, Some, None, is_some, inl, inr, refl, sym, ◌∙◌, ap}
use Rattle.std.proofs.lemmas.Bool.{cases_Bool}
use Rattle.std.specs.Prelude.{slice_get, option_map, option_and_then, remove}
use Rattle.cl_store.proofs.Matches.{first_match-yes, first_match-no, first_match-matches, found-at, found-front, option_map-some}
use Rattle.cl_keyed.proofs.Filters.{filter-yes, filter-no}
use Rattle.cl_value.specs.Matching.{matches}
use Rattle.cl_value.specs.Replay.{first_match, found, without_first, without_place}
use Rattle.cl_value.specs.declared.value.Value.{Value}
use Rattle.cl_value.specs.declared.template.Slot.{Slot}

at_next : (u : List Value) (us : List (List Value)) (o : Option ℕ) → option_and_then (slice_get (u ∷ us)) (option_map suc o) ≡ option_and_then (slice_get us) o
at_next u us None = refl
at_next u us (Some i) = refl

without_next : (u : List Value) (us : List (List Value)) (o : Option ℕ) → without_place (u ∷ us) (option_map suc o) ≡ u ∷ without_place us o
without_next u us None = refl
without_next u us (Some i) = refl

-- what is found in a list that doesn't begin with a match
pub found-later : (u : List Value) (us : List (List Value)) (m : List Slot) → matches m u ≡ false → found (u ∷ us) m ≡ found us m
found-later u us m e = rw e (at_next u us (first_match us m))

-- what is left of a list that doesn't begin with a match
pub without-later : (u : List Value) (us : List (List Value)) (m : List Slot) → matches m u ≡ false → without_first (u ∷ us) m ≡ u ∷ without_first us m
without-later u us m e = rw e (without_next u us (first_match us m))

-- there is a first match where something is found
pub is_some-found : (ts : List (List Value)) (m : List Slot) → is_some (first_match ts m) ≡ is_some (found ts m)
is_some-found ts m =
    elim (first_match ts m) as (λ o. first_match ts m ≡ o → is_some (first_match ts m) ≡ is_some (found ts m)) [
      | None ↦ λ none. let e : found ts m ≡ None = rw none refl in ap is_some none ∙ sym (ap is_some e)
      | Some i ↦ λ is.
          let (u, (got, met)) = first_match-matches ts m i is in
          ap is_some is ∙ sym (ap is_some (found-at ts m i is ∙ got))
    ] refl

-- a test that each match passes changes nothing of what is found
pub found-filter : (p : List Value → Bool) (m : List Slot) → ((t : List Value) → matches m t ≡ true → p t ≡ true) → (ts : List (List Value)) → found ts m ≡ found (filter p ts) m
found-filter p m all [] = refl
found-filter p m all (t ∷ ts) =
    let rest = found-filter p m all ts in
    elim (cases_Bool (matches m t)) [
      | inl met ↦
          found-front t ts (t ∷ ts) m refl met ∙ sym (ap (λ us. found us m) (filter-yes p t ts (all t met)) ∙ found-front t (filter p ts) (t ∷ filter p ts) m refl met)
      | inr unmet ↦
          elim (cases_Bool (p t)) [
            | inl kept ↦ found-later t ts m unmet ∙ (rest ∙ sym (ap (λ us. found us m) (filter-yes p t ts kept) ∙ found-later t (filter p ts) m unmet))
            | inr gone ↦ found-later t ts m unmet ∙ (rest ∙ sym (ap (λ us. found us m) (filter-no p t ts gone)))
          ]
    ]

-- after tuples that don't match, one that matches is left out
pub without-end : (ts us : List (List Value)) (t : List Value) (m : List Slot) → found ts m ≡ None → matches m t ≡ true → without_first (ts ++ t ∷ us) m ≡ ts ++ us
without-end [] us t m none met = rw met refl
without-end (s ∷ ts) us t m none met =
    elim (cases_Bool (matches m s)) [
      | inl here ↦ let e = found-front s ts (s ∷ ts) m refl here in cc
      | inr unmet ↦
          let rest : found ts m ≡ None = sym (found-later s ts m unmet) ∙ none in
          without-later s (ts ++ t ∷ us) m unmet ∙ ap (λ ws. s ∷ ws) (without-end ts us t m rest met)
    ]

-- a list at the place of its first match
pub first_match-split : {A : Type 0} (v : A → List Value) (xs : List A) (m : List Slot) (i : ℕ) → first_match (map v xs) m ≡ Some i → (ys : List A) × ((y : A) × ((zs : List A) × ((xs ≡ ys ++ y ∷ zs) × ((remove xs i ≡ ys ++ zs) × ((found (map v ys) m ≡ None) × (matches m (v y) ≡ true))))))
first_match-split v [] m i h = cc
first_match-split v (x ∷ xs) m i h =
    elim (cases_Bool (matches m (v x))) [
      | inl met ↦
          let e = first_match-yes (v x) (map v xs) m met in
          let zero_is : i ≡ 0 = cc in
          ([], (x, (xs, (refl, (ap (remove (x ∷ xs)) zero_is, (refl, met))))))
      | inr unmet ↦
          let e = first_match-no (v x) (map v xs) m unmet in
          let (j, (at, is)) = option_map-some _ i (sym e ∙ h) in
          let (ys, (y, (zs, (split, (left, (none, met)))))) = first_match-split v xs m j at in
          (x ∷ ys, (y, (zs, (ap (λ ws. x ∷ ws) split, (ap (remove (x ∷ xs)) is ∙ ap (λ ws. x ∷ ws) left, (found-later (v x) (map v ys) m unmet ∙ none, met))))))
    ]
