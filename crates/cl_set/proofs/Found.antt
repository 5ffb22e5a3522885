-- What is found for a template.
use Rattle.std.proofs.Common.{◌≡◌, suc, true, false, not, List, [], ◌∷◌, length, Some, None, is_some, is_none, refl, sym, ◌∙◌, ap}
use Rattle.cl_store.proofs.Same.{both}
use Rattle.cl_store.proofs.Matches.{first_match-matches, found-at, without_first-none}
use Rattle.cl_value.specs.Answers.{take_answer, take_now_answer}
use Rattle.cl_value.specs.Matching.{matches, accepts}
use Rattle.cl_value.specs.Replay.{first_match, found, without_first, replayed}
use Rattle.cl_value.specs.declared.value.Value.{Value}
use Rattle.cl_value.specs.declared.template.Slot.{Slot}

-- a tuple that matches has as many fields as the template
pub matches-length : (m : List Slot) (t : List Value) → matches m t ≡ true → length t ≡ length m
matches-length [] [] h = refl
matches-length [] (v ∷ t) h = cc
matches-length (s ∷ m) [] h = cc
matches-length (s ∷ m) (v ∷ t) h = ap suc (matches-length m t (both (accepts s v) (matches m t) h).1)

-- where there is no first match nothing is found
found-none : (ts : List (List Value)) (m : List Slot) → first_match ts m ≡ None → found ts m ≡ None
found-none ts m h = rw h refl

some-is : (u t : List Value) → Some u ≡ Some t → u ≡ t
some-is u t h = cc

-- what is found matches
pub found-matches : (ts : List (List Value)) (m : List Slot) (t : List Value) → found ts m ≡ Some t → matches m t ≡ true
found-matches ts m t h =
    elim (first_match ts m) as (λ o. first_match ts m ≡ o → matches m t ≡ true) [
      | None ↦ λ none. let P = found-none ts m none in cc
      | Some i ↦ λ is.
          let (u, (got, met)) = first_match-matches ts m i is in
          let at = found-at ts m i is in
          let same : u ≡ t = some-is u t (sym (at ∙ got) ∙ h) in
          ap (matches m) (sym same) ∙ met
    ] refl

-- what is found has as many fields as the template
pub found-length : (ts : List (List Value)) (m : List Slot) (t : List Value) → found ts m ≡ Some t → length t ≡ length m
found-length ts m t h = matches-length m t (found-matches ts m t h)

-- where none matches nothing is found, and nothing is left out
pub none-found : (ts : List (List Value)) (m : List Slot) → is_some (first_match ts m) ≡ false → found ts m ≡ None
none-found ts m h = elim (first_match ts m) as (λ o. first_match ts m ≡ o → found ts m ≡ None) [
  | None ↦ λ none. found-none ts m none
  | Some i ↦ λ is. let e : is_some (first_match ts m) ≡ true = ap is_some is in cc
] refl

pub none-left : (ts : List (List Value)) (m : List Slot) → is_some (first_match ts m) ≡ false → without_first ts m ≡ ts
none-left ts m h = elim (first_match ts m) as (λ o. first_match ts m ≡ o → without_first ts m ≡ ts) [
  | None ↦ λ none. rw none refl
  | Some i ↦ λ is. let e : is_some (first_match ts m) ≡ true = ap is_some is in cc
] refl

pub ruleset founds = (found-length, none-found, none-left)

-- what a take leaves is the content after its answer, whether it waits or not
pub taken-replayed : (ts : List (List Value)) (m : List Slot) → without_first ts m ≡ replayed ts (take_answer m (found ts m))
taken-replayed ts m =
    elim (found ts m) as (λ o. found ts m ≡ o → without_first ts m ≡ replayed ts (take_answer m o)) [
      | None ↦ λ none. without_first-none ts m none
      | Some t ↦ λ _. refl
    ] refl

pub taken_now-replayed : (ts : List (List Value)) (m : List Slot) → without_first ts m ≡ replayed ts (take_now_answer m (found ts m))
taken_now-replayed ts m =
    elim (found ts m) as (λ o. found ts m ≡ o → without_first ts m ≡ replayed ts (take_now_answer m o)) [
      | None ↦ λ none. without_first-none ts m none
      | Some t ↦ λ _. refl
    ] refl

-- an operation waits where there is no first match
pub not-has : (ts : List (List Value)) (m : List Slot) → not (is_some (first_match ts m)) ≡ is_none (found ts m)
not-has ts m =
    elim (first_match ts m) as (λ o. first_match ts m ≡ o → not (is_some (first_match ts m)) ≡ is_none (found ts m)) [
      | None ↦ λ none. rw none refl
      | Some i ↦ λ is.
          let (u, (got, met)) = first_match-matches ts m i is in
          let at : found ts m ≡ Some u = found-at ts m i is ∙ got in
          ap (λ o. not (is_some o)) is ∙ sym (ap is_none at)
    ] refl

pub ruleset asks = (not-has)
