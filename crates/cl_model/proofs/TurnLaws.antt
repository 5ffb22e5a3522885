-- A run by words is one, and comes nearer to its end with each turn.
use Rattle.std.proofs.Common.{◌≡◌, ℕ, zero, suc, ◌+◌, ◌<◌, ◌≤◌, Bool, true, false, List, [], ◌∷◌, length, length-append, refl, sym, ap, ◌∙◌, arith, inl, inr, mod-lt}
use Rattle.std.specs.Prelude.{◌⊎◌, ◌%◌, ◌&&◌, is_none, nat_lt, get_or}
use Rattle.std.proofs.lemmas.Bool.{cases_lt, ltb-true}
use Rattle.cl_model.specs.Meaning.{Meaning}
use Rattle.cl_model.specs.Turns.{Moment, OneRunByWords, OverForGood, EachTurnAdds, Turn, Acts, Ends, Waits, Idles, does_something, turn, halting, names_at, behind, ready_among, ready_at, chosen, has_turn, after_word, moment_after, stopped, ends_at}

-- a word changes nothing where no turn comes
none_comes : (meaning : Meaning) (m : Moment) (word : ℕ) → has_turn meaning m ≡ false → after_word meaning m word ≡ m
none_comes meaning m word h = rw h refl

module _ (meaning : Meaning) (words : ℕ → ℕ) where
  stays : (turns more : ℕ) → has_turn meaning (moment_after meaning words turns) ≡ false → turns ≤ more → moment_after meaning words more ≡ moment_after meaning words turns
  stays zero zero over h = refl
  stays (suc turns) zero over h = absurd (omega (arith, h))
  stays turns (suc more) over h = by_order (cases_lt more turns) (stays turns more over)
    where
      by_order : (more < turns) ⊎ (turns ≤ more) → (turns ≤ more → moment_after meaning words more ≡ moment_after meaning words turns) → moment_after meaning words (suc more) ≡ moment_after meaning words turns
      by_order (inl less) rest = let same : suc more ≡ turns = omega (arith, h, less) in ap (moment_after meaning words) same
      by_order (inr later) rest = none_comes meaning (moment_after meaning words more) (words more) (ap (has_turn meaning) (rest later) ∙ over) ∙ rest later

pub over_for_good : OverForGood
over_for_good meaning words turns more over h = stays meaning words turns more over h

pub one_run_by_words : OneRunByWords
one_run_by_words meaning words turns more acts others ends further a b = by_order (cases_lt more turns)
  where
    alike : moment_after meaning words more ≡ moment_after meaning words turns → (acts ≡ others) × (ends ≡ further)
    alike same =
        let last = ap (stopped meaning) same in
        (a.acts_are ∙ (sym (ap (λ m. m.acts) last) ∙ sym b.acts_are), a.ends_are ∙ (sym (ap ends_at last) ∙ sym b.ends_are))

    by_order : (more < turns) ⊎ (turns ≤ more) → (acts ≡ others) × (ends ≡ further)
    by_order (inl less) = alike (sym (stays meaning words more turns b.over (omega (arith, less))))
    by_order (inr later) = alike (stays meaning words turns more a.over later)

-- ---- each turn adds

-- one that is ready does something
ready_does : (meaning : Meaning) (m : Moment) (names : List ℕ) (k : ℕ) → k < length (ready_among meaning m names) → does_something (turn meaning m (get_or (ready_among meaning m names) k 0)) ≡ true
ready_does meaning m [] k h = absurd (omega (arith, h))
ready_does meaning m (name ∷ names) k h = by_test (does_something (turn meaning m name)) refl (ready_does meaning m names) k h
  where
    by_place : (own : does_something (turn meaning m name) ≡ true) → ((j : ℕ) → j < length (ready_among meaning m names) → does_something (turn meaning m (get_or (ready_among meaning m names) j 0)) ≡ true) → (j : ℕ) → j < length (name ∷ ready_among meaning m names) → does_something (turn meaning m (get_or (name ∷ ready_among meaning m names) j 0)) ≡ true
    by_place own rest zero h = own
    by_place own rest (suc j) h = rest j (omega (arith, h))

    by_test : (test : Bool) → does_something (turn meaning m name) ≡ test → ((j : ℕ) → j < length (ready_among meaning m names) → does_something (turn meaning m (get_or (ready_among meaning m names) j 0)) ≡ true) → (j : ℕ) → j < length (ready_among meaning m (name ∷ names)) → does_something (turn meaning m (get_or (ready_among meaning m (name ∷ names)) j 0)) ≡ true
    by_test true e rest j h = rw e (by_place e rest j (rw e at h))
    by_test false e rest j h = rw e (rest j (rw e at h))

adds : (meaning : Meaning) (m : Moment) (name : ℕ) (t : Turn) → does_something t ≡ true → length m.acts + length m.ends < length (behind m name t).acts + length (behind m name t).ends
adds meaning m name (Acts site what) h = simp length-append (omega arith)
adds meaning m name (Ends end) h = simp length-append (omega arith)
adds meaning m name Waits h = absurd cc
adds meaning m name Idles h = absurd cc

second : (a b : Bool) → (a && b) ≡ true → b ≡ true
second true b h = h
second false b h = absurd cc

pub each_turn_adds : EachTurnAdds
each_turn_adds meaning m word h =
    let some = ltb-true 0 (length (ready_at meaning m)) (second (is_none (halting m.ends)) (nat_lt 0 (length (ready_at meaning m))) h) in
    let below : word % length (ready_at meaning m) < length (ready_at meaning m) = mod-lt word some in
    rw h (adds meaning m (chosen (ready_at meaning m) word) (turn meaning m (chosen (ready_at meaning m) word)) (ready_does meaning m (names_at m) (word % length (ready_at meaning m)) below))
