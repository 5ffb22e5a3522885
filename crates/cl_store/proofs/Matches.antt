-- Facts about the first match of a list of tuples.
use Rattle.std.proofs.Common.{◌≡◌, ℕ, suc, ◌+◌, ◌<◌, Bool, true, false, List, [], ◌∷◌, ◌++◌, length, map, get_or, take, drop, Option, Some, None, refl, sym, ◌∙◌, ap, arith, inl, inr, subst}
use Rattle.std.proofs.lemmas.Bool.{cases_Bool}
use Rattle.std.proofs.lemmas.List.{map-append, take-map, drop-map, length-map, length-take-le, take_more}
use Rattle.std.proofs.lemmas.List.Elements.{All-append, All-take, All-drop, All-head, All-tail}
use Rattle.std.proofs.Math.Seq.{split_at}
use Rattle.std.proofs.lemmas.Option.{slice_get_within, slice_get-map}
use Rattle.std.specs.Prelude.{option_map, slice_get, remove, All}
use Rattle.std.specs.List.{list_all}
use Rattle.cl_store.proofs.Same.{both}
use Rattle.cl_value.specs.Matching.{matches}
use Rattle.cl_value.specs.Replay.{first_match, found, without_first, without_place}
use Rattle.cl_value.specs.declared.value.Value.{Value}
use Rattle.cl_value.specs.declared.template.Slot.{Slot}

-- a list whose oldest tuple matches has its first match there
pub first_match-yes : (t : List Value) (ts : List (List Value)) (m : List Slot) → matches m t ≡ true → first_match (t ∷ ts) m ≡ Some 0
first_match-yes t ts m met = rw met

-- a list whose oldest tuple does not match has the first match of the others, one place on
pub first_match-no : (t : List Value) (ts : List (List Value)) (m : List Slot) → matches m t ≡ false → first_match (t ∷ ts) m ≡ option_map suc (first_match ts m)
first_match-no t ts m unmet = rw unmet

-- no place, moved one on, was no place
pub option_map-none : (place : Option ℕ) → option_map suc place ≡ None → place ≡ None
option_map-none None h = refl
option_map-none (Some i) h = cc

-- a place, moved one on, was the place before
pub option_map-some : (place : Option ℕ) (i : ℕ) → option_map suc place ≡ Some i → (j : ℕ) × ((place ≡ Some j) × (i ≡ suc j))
option_map-some None i h = cc
option_map-some (Some j) i h = (j, (refl, (cc)))

-- after tuples that do not match, one that matches is the first match
pub first_match-end : (ts us : List (List Value)) (t : List Value) (m : List Slot) → first_match ts m ≡ None → matches m t ≡ true → first_match (ts ++ t ∷ us) m ≡ Some (length ts)
first_match-end [] us t m none met = first_match-yes t us m met
first_match-end (s ∷ ts) us t m none met =
    elim (cases_Bool (matches m s)) [
      | inl y ↦ let e = first_match-yes s ts m y in cc
      | inr n ↦
          let e = first_match-no s ts m n in
          let rest : first_match ts m ≡ None = option_map-none _ (sym e ∙ none) in
          first_match-no s (ts ++ t ∷ us) m n ∙ ap (option_map suc) (first_match-end ts us t m rest met)
    ]

-- after tuples that do not match, and one more, there is no match
pub first_match-push : (ts : List (List Value)) (t : List Value) (m : List Slot) → first_match ts m ≡ None → matches m t ≡ false → first_match (ts ++ t ∷ []) m ≡ None
first_match-push [] t m none unmet = first_match-no t [] m unmet
first_match-push (s ∷ ts) t m none unmet =
    elim (cases_Bool (matches m s)) [
      | inl y ↦ let e = first_match-yes s ts m y in cc
      | inr n ↦
          let e = first_match-no s ts m n in
          let rest : first_match ts m ≡ None = option_map-none _ (sym e ∙ none) in
          first_match-no s (ts ++ t ∷ []) m n ∙ ap (option_map suc) (first_match-push ts t m rest unmet)
    ]

-- the first match is a place of the list, whose tuple matches
pub first_match-matches : (ts : List (List Value)) (m : List Slot) (i : ℕ) → first_match ts m ≡ Some i → (t : List Value) × ((slice_get ts i ≡ Some t) × (matches m t ≡ true))
first_match-matches [] m i h = cc
first_match-matches (s ∷ ts) m i h =
    elim (cases_Bool (matches m s)) [
      | inl y ↦
          let e = first_match-yes s ts m y in
          let zero_is : 0 ≡ i = cc in
          let P : ℕ → Type 0 = λ k. slice_get (s ∷ ts) k ≡ Some s in
          (s, (subst P zero_is refl, y))
      | inr n ↦
          let e = first_match-no s ts m n in
          let (j, (at, is)) = option_map-some _ i (sym e ∙ h) in
          let (t, (got, met)) = first_match-matches ts m j at in
          let P : ℕ → Type 0 = λ k. slice_get (s ∷ ts) k ≡ Some t in
          (t, (subst P (sym is) got, met))
    ]

-- the first match lies within the list
pub first_match-within : (ts : List (List Value)) (m : List Slot) (i : ℕ) → first_match ts m ≡ Some i → i < length ts
first_match-within ts m i h =
    let (t, (got, met)) = first_match-matches ts m i h in slice_get_within ts i t got

-- what is found stands at the place of the first match
pub found-at : (ts : List (List Value)) (m : List Slot) (i : ℕ) → first_match ts m ≡ Some i → found ts m ≡ slice_get ts i
found-at ts m i h = rw h

-- what is found matches, and stands at the place of the first match
pub found-matches : (ts : List (List Value)) (m : List Slot) (t : List Value) → found ts m ≡ Some t → (i : ℕ) × ((first_match ts m ≡ Some i) × ((slice_get ts i ≡ Some t) × (matches m t ≡ true)))
found-matches ts m t h =
    elim (first_match ts m) as (λ o. first_match ts m ≡ o → (i : ℕ) × ((first_match ts m ≡ Some i) × ((slice_get ts i ≡ Some t) × (matches m t ≡ true)))) [
      | None ↦ λ none. let e : found ts m ≡ None = rw none refl in cc
      | Some i ↦ λ is.
          let e = found-at ts m i is in
          let (u, (got, met)) = first_match-matches ts m i is in
          let same : u ≡ t = cc in
          let P : List Value → Type 0 = λ w. matches m w ≡ true in
          (i, (is, (sym e ∙ h, subst P same met)))
    ] refl

-- without the first match the list lacks that place
pub without_first-at : (ts : List (List Value)) (m : List Slot) (i : ℕ) → first_match ts m ≡ Some i → without_first ts m ≡ remove ts i
without_first-at ts m i h = rw h

-- a list has its first match where a tuple matches and those before it do not
pub first_match-here : {A : Type 0} (v : A → List Value) (xs : List A) (i : ℕ) (x : A) (m : List Slot) → i < length xs → x ≡ get_or xs i x → first_match (map v (take i xs)) m ≡ None → matches m (v x) ≡ true → first_match (map v xs) m ≡ Some i
first_match-here v xs i x m lt at none met =
    let count : length (map v (take i xs)) ≡ i = length-map _ v ∙ length-take-le i xs (omega arith) in
    let parts : xs ≡ take i xs ++ x ∷ drop (suc i) xs = split_at xs i x lt ∙ ap (λ y. take i xs ++ y ∷ drop (suc i) xs) (sym at) in
    ap (λ ys. first_match (map v ys) m) parts ∙ (ap (λ ts. first_match ts m) (map-append v (take i xs) (x ∷ drop (suc i) xs)) ∙ (first_match-end _ _ _ m none met ∙ ap Some count))

-- there is none up to a place where a tuple does not match, nor those before it
pub first_match-further : {A : Type 0} (v : A → List Value) (xs : List A) (i : ℕ) (x : A) (m : List Slot) → i < length xs → x ≡ get_or xs i x → first_match (map v (take i xs)) m ≡ None → matches m (v x) ≡ false → first_match (map v (take (i + 1) xs)) m ≡ None
first_match-further v xs i x m lt at none unmet =
    let parts : take (i + 1) xs ≡ take i xs ++ x ∷ [] = take_more xs i x lt ∙ ap (λ y. take i xs ++ y ∷ []) (sym at) in
    ap (λ ys. first_match (map v ys) m) parts ∙ (ap (λ ts. first_match ts m) (map-append v (take i xs) (x ∷ [])) ∙ first_match-push _ _ m none unmet)

-- a list of views without a place is the views of the list without it
pub map-remove : {A B : Type 0} (v : A → B) (xs : List A) (i : ℕ) → map v (remove xs i) ≡ remove (map v xs) i
map-remove v xs i = rw (map-append, take-map, drop-map) refl

-- a place of the first match lies within the list whose views are searched
pub view_within : {A : Type 0} (v : A → List Value) (xs : List A) (m : List Slot) (i : ℕ) → first_match (map v xs) m ≡ Some i → i < length xs
view_within v xs m i h = rw (length-map xs v) at (first_match-within (map v xs) m i h)

-- what is found is the view of what stands at the place of the first match
pub view_found : {A : Type 0} (v : A → List Value) (xs : List A) (m : List Slot) (i : ℕ) (x : A) → first_match (map v xs) m ≡ Some i → slice_get xs i ≡ Some x → found (map v xs) m ≡ Some (v x)
view_found v xs m i x h at = found-at (map v xs) m i h ∙ (slice_get-map v xs i ∙ ap (option_map v) at)

-- what holds of each item still holds of each where one is removed
pub All-remove : {A : Type 0} (P : A → Type 0) (xs : List A) (i : ℕ) → All P xs → All P (remove xs i)
All-remove P xs i all = All-append P _ _ (All-take P i xs all) (All-drop P (suc i) xs all)

-- where nothing is found, the list without its first match is the list
pub without_first-none : (ts : List (List Value)) (m : List Slot) → found ts m ≡ None → without_first ts m ≡ ts
without_first-none ts m h =
    elim (first_match ts m) as (λ o. first_match ts m ≡ o → without_first ts m ≡ ts) [
      | None ↦ λ none. rw none refl
      | Some i ↦ λ is.
          let (u, (got, met)) = first_match-matches ts m i is in
          let at = found-at ts m i is in
          cc
    ] refl

-- what holds of each tuple holds of each that is left without the first match
pub All-without_first : (P : List Value → Type 0) (ts : List (List Value)) (m : List Slot) → All P ts → All P (without_first ts m)
All-without_first P ts m all =
    elim (first_match ts m) as (λ o. All P (without_place ts o)) [ None ↦ all | Some i ↦ All-remove P ts i all ]

-- what holds of each tuple holds of each after a take, whether it had one or not
pub All-taken : (P : List Value → Type 0) (hit : Bool) (old new : List (List Value)) (m : List Slot) → All P old → (hit ≡ true → new ≡ without_first old m) → (hit ≡ false → new ≡ old) → All P new
All-taken P hit old new m all left stays =
    let Q : List (List Value) → Type 0 = λ ts. All P ts in
    elim (cases_Bool hit) [
      | inl met ↦ subst Q (sym (left met)) (All-without_first P old m all)
      | inr unmet ↦ subst Q (sym (stays unmet)) all
    ]

-- where the oldest tuple matches it is the first match
pub first_match-front : (t : List Value) (ts us : List (List Value)) (m : List Slot) → us ≡ t ∷ ts → matches m t ≡ true → first_match us m ≡ Some 0
first_match-front t ts us m is met = rw is (first_match-yes t ts m met)

-- what is found is the oldest tuple
pub found-front : (t : List Value) (ts us : List (List Value)) (m : List Slot) → us ≡ t ∷ ts → matches m t ≡ true → found us m ≡ Some t
found-front t ts us m is met = rw (is, met) refl

-- and the later tuples are left
pub without_first-front : (t : List Value) (ts us : List (List Value)) (m : List Slot) → us ≡ t ∷ ts → matches m t ≡ true → without_first us m ≡ ts
without_first-front t ts us m is met = rw (is, met) refl

-- where one tuple matches, each of a list of nothing else does
pub list_all-same : (u : List Value) (ts : List (List Value)) (m : List Slot) → All (λ t. t ≡ u) ts → matches m u ≡ true → list_all (matches m) ts ≡ true
list_all-same u [] m all met = refl
list_all-same u (t ∷ ts) m all met =
    let here : matches m t ≡ true = ap (matches m) (All-head (λ w. w ≡ u) t ts all) ∙ met in
    rw here (list_all-same u ts m (All-tail (λ w. w ≡ u) t ts all) met)

-- where each tuple matches, and one more, each of all matches
pub list_all-more : (ts : List (List Value)) (t : List Value) (m : List Slot) → list_all (matches m) ts ≡ true → matches m t ≡ true → list_all (matches m) (ts ++ t ∷ []) ≡ true
list_all-more [] t m all met = rw met refl
list_all-more (u ∷ ts) t m all met =
    let parts = both (matches m u) (list_all (matches m) ts) all in
    rw parts.0 (list_all-more ts t m parts.1 met)

-- where each tuple matches, each of those that are left without the first match does
pub list_all-without_first : (ts : List (List Value)) (m : List Slot) → list_all (matches m) ts ≡ true → list_all (matches m) (without_first ts m) ≡ true
list_all-without_first [] m all = refl
list_all-without_first (t ∷ ts) m all =
    let parts = both (matches m t) (list_all (matches m) ts) all in
    rw parts.0 parts.1

-- the step of a search, and its end
pub ruleset searches = (first_match-here, first_match-further)

-- what stands at the front
pub ruleset fronts = (first_match-front, found-front, without_first-front)

-- what stands at the place of the first match
pub ruleset reads = (view_within, view_found)

-- each tuple still matches
pub ruleset still = (list_all-more, list_all-without_first)

-- where nothing is found, nothing is left out
pub ruleset misses = (without_first-none)

-- what is left without the first match
pub ruleset finds = (first_match-within, without_first-at)
