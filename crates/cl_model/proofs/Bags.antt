-- The bag of a history is the count of its replay's tuples.
use Rattle.std.proofs.Common.{◌≡◌, ℕ, ◌+◌, ◌-◌, ◌<◌, Bool, true, false, cond, List, [], ◌∷◌, ◌++◌, Some, None, refl, sym, ◌∙◌, arith}
use Rattle.cl_value.specs.Matching.{same_tuple, matches}
use Rattle.cl_value.specs.Replay.{first_match, without_first, found, replayed, replay_from, TakesOldest, OldestFrom}
use Rattle.cl_value.specs.Plain.{PlainWhat, DidOut, DidIn, DidRd, InpHit, InpMiss, RdpHit, RdpMiss, DidEval, DidLand, PlainAct}
use Rattle.cl_value.specs.declared.value.Value.{Value}
use Rattle.cl_value.specs.declared.template.Slot.{Slot}
use Rattle.cl_model.specs.Counting.{count, Counts}
use Rattle.cl_model.specs.Bag.{Bag, empty, plus, minus, Holds, NoneMatches}
use Rattle.cl_model.specs.Machine.{State, bag_after, changed, after_from}
use Rattle.cl_model.proofs.Matches.{same_tuple_refl, same_tuple_is, found_here, found_later, without_here, without_later, first_none_later}

pub count_push : (u t : List Value) (ts : List (List Value)) → count u (ts ++ t ∷ []) ≡ cond (same_tuple t u) (count u ts + 1) (count u ts)
count_push u t [] = refl
count_push u t (x ∷ xs) = by_tests (same_tuple x u) (same_tuple t u) (count u xs) (count u (xs ++ t ∷ [])) (count_push u t xs)
  where
    by_tests : (a b : Bool) (n k : ℕ) → k ≡ cond b (n + 1) n → cond a (k + 1) k ≡ cond b (cond a (n + 1) n + 1) (cond a (n + 1) n)
    by_tests true true n k h = omega arith
    by_tests true false n k h = omega arith
    by_tests false true n k h = omega arith
    by_tests false false n k h = omega arith

-- the count without the first match
pub count_without : (u t : List Value) (ts : List (List Value)) (m : List Slot) → found ts m ≡ Some t → cond (same_tuple t u) (count u (without_first ts m) + 1) (count u (without_first ts m)) ≡ count u ts
count_without u t [] m h = cc
count_without u t (x ∷ xs) m h = by_head (matches m x) refl (count_without u t xs m)
  where
    by_tests : (a b : Bool) (n k : ℕ) → cond b (n + 1) n ≡ k → cond b (cond a (n + 1) n + 1) (cond a (n + 1) n) ≡ cond a (k + 1) k
    by_tests true true n k h = omega arith
    by_tests true false n k h = omega arith
    by_tests false true n k h = omega arith
    by_tests false false n k h = omega arith

    by_head : (b : Bool) → matches m x ≡ b → (found xs m ≡ Some t → cond (same_tuple t u) (count u (without_first xs m) + 1) (count u (without_first xs m)) ≡ count u xs) → cond (same_tuple t u) (count u (without_first (x ∷ xs) m) + 1) (count u (without_first (x ∷ xs) m)) ≡ count u (x ∷ xs)
    by_head true e later =
        let here = found_here x xs m e in
        let same : x ≡ t = cc in
        rw (without_here x xs m e, same) refl
    by_head false e later =
        rw (without_later x xs m e) (by_tests (same_tuple x u) (same_tuple t u) (count u (without_first xs m)) (count u xs) (later (sym (found_later x xs m e) ∙ h)))

-- a found tuple is counted
pub count_found : (t : List Value) (ts : List (List Value)) (m : List Slot) → found ts m ≡ Some t → 0 < count t ts
count_found t ts m h =
    let e = count_without t t ts m h in
    let k = rw (same_tuple_refl t) at e in
    omega (arith, k)

-- where nothing is found, no tuple that matches is counted
pub count_none : (u : List Value) (ts : List (List Value)) (m : List Slot) → first_match ts m ≡ None → matches m u ≡ true → count u ts ≡ 0
count_none u [] m h k = refl
count_none u (x ∷ xs) m h k =
    let parts = first_none_later x xs m h in
    let rest = count_none u xs m parts.1 k in
    by_test (same_tuple x u) refl parts.0 rest
  where
    by_test : (b : Bool) → same_tuple x u ≡ b → matches m x ≡ false → count u xs ≡ 0 → count u (x ∷ xs) ≡ 0
    by_test true e f r = let same = same_tuple_is x u e in cc
    by_test false e f r = rw e r

pub counts_at_first : Counts empty []
counts_at_first = record { each = λ u. refl }

plus_counts : (bag : Bag) (ts : List (List Value)) (t : List Value) → Counts bag ts → Counts (plus bag t) (ts ++ t ∷ [])
plus_counts bag ts t h = record { each = λ u. rw (count_push u t ts, h.each u) refl }

minus_counts : (bag : Bag) (ts : List (List Value)) (m : List Slot) (t : List Value) → Counts bag ts → found ts m ≡ Some t → Counts (minus bag t) (without_first ts m)
minus_counts bag ts m t h f =
    record {
      each = λ u. by_test u (same_tuple t u) (bag u) (count u (without_first ts m)) (count u ts) (h.each u) (count_without u t ts m f);
    }
  where
    by_test : (u : List Value) (b : Bool) (n k c : ℕ) → n ≡ c → cond b (k + 1) k ≡ c → cond b (n - 1) n ≡ k
    by_test u true n k c e f = omega arith
    by_test u false n k c e f = omega arith

-- an act that takes the oldest match keeps the two together
pub counts_after : (bag : Bag) (ts : List (List Value)) (what : PlainWhat) → TakesOldest ts what → Counts bag ts → Counts (bag_after bag what) (replayed ts what)
counts_after bag ts (DidOut t) o h = plus_counts bag ts t h
counts_after bag ts (DidIn m t) o h = minus_counts bag ts m t h o
counts_after bag ts (DidRd m t) o h = h
counts_after bag ts (InpHit m t) o h = minus_counts bag ts m t h o
counts_after bag ts (InpMiss m) o h = h
counts_after bag ts (RdpHit m t) o h = h
counts_after bag ts (RdpMiss m) o h = h
counts_after bag ts (DidEval live) o h = h
counts_after bag ts (DidLand t) o h = plus_counts bag ts t h

-- after a history in which each act takes the oldest match, the bag is the count of the replay
pub counts_from : (state : State) (ts : List (List Value)) (acts : List PlainAct) → OldestFrom ts acts → Counts state.bag ts → Counts (after_from state acts).bag (replay_from ts acts)
counts_from state ts [] o h = h
counts_from state ts (act ∷ acts) o h = counts_from (changed state act) (replayed ts act.what) acts o.1 (counts_after state.bag ts act.what o.0 h)

-- a found tuple is in the bag
pub holds_found : (bag : Bag) (ts : List (List Value)) (m : List Slot) (t : List Value) → Counts bag ts → found ts m ≡ Some t → Holds bag t
holds_found bag ts m t h f = omega (arith, h.each t, count_found t ts m f)

-- where nothing is found, nothing in the bag matches
pub none_found : (bag : Bag) (ts : List (List Value)) (m : List Slot) → Counts bag ts → first_match ts m ≡ None → NoneMatches bag m
none_found bag ts m h f = λ u k. h.each u ∙ count_none u ts m f k
