-- Facts about a list that has one tuple a number of times.
use Rattle.std.proofs.Common.{◌≡◌, ℕ, zero, suc, ◌+◌, ◌-◌, ◌<◌, true, List, [], ◌∷◌, ◌++◌, replicate, Some, refl, sym, arith}
use Rattle.std.proofs.lemmas.List.{replicate_more}
use Rattle.cl_store.proofs.Matches.{first_match-yes}
use Rattle.cl_store.proofs.Same.{same_tuple-is}
use Rattle.cl_value.specs.Matching.{matches, same_tuple}
use Rattle.cl_value.specs.Replay.{first_match, found, without_first}
use Rattle.cl_value.specs.declared.value.Value.{Value}
use Rattle.cl_value.specs.declared.template.Slot.{Slot}

-- one more at the front is one more
pub replicate-before : (n : ℕ) (t : List Value) → 0 < n → replicate n t ≡ t ∷ replicate (n - 1) t
replicate-before zero t some = absurd (omega arith)
replicate-before (suc n) t some = let e : suc n - 1 ≡ n = omega arith in rw e refl

-- the first match of a tuple that is there and matches
pub first_match-copies : (n : ℕ) (t : List Value) (m : List Slot) → 0 < n → matches m t ≡ true → first_match (replicate n t) m ≡ Some 0
first_match-copies n t m some met = rw (replicate-before n t some) (first_match-yes t (replicate (n - 1) t) m met)

-- what is found is the tuple
pub found-copies : (n : ℕ) (t : List Value) (m : List Slot) → 0 < n → matches m t ≡ true → found (replicate n t) m ≡ Some t
found-copies n t m some met = rw (first_match-copies n t m some met, replicate-before n t some) refl

-- and it is there once less
pub without-copies : (n : ℕ) (t : List Value) (m : List Slot) → 0 < n → matches m t ≡ true → without_first (replicate n t) m ≡ replicate (n - 1) t
without-copies n t m some met = rw (first_match-copies n t m some met, replicate-before n t some) refl

-- once more is one more, of a tuple that is the same
pub replicate-same : (n : ℕ) (t u : List Value) → same_tuple t u ≡ true → replicate (n + 1) t ≡ replicate n t ++ u ∷ []
replicate-same n t u same = rw (← same_tuple-is t u same) (sym (replicate_more n t))

pub ruleset counted = (first_match-copies, found-copies, without-copies, replicate-same)
