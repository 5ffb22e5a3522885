-- Steps on word 1 keep the rule.
use Rattle.std.proofs.Common.{◌≡◌, ℕ, eqb, eq-eqb, ne_eqb, zero, suc, ◌+◌, ◌<◌, ◌≤◌, List, [], ◌∷◌, set, Bool, true, false, refl, sym, ap, subst, arith, ◌∙◌}
use Rattle.std.specs.Prelude.{Option, Some, None, IfSome, slice_index, slice_set, ◌==◌}
use mathlib.Core.Option.{some}
use prog.Atomic.{either}
use lib.ListN.{get_elem?}
use Rattle.atomic_table.specs.Table.{State, Me, keeps, Allows}
use Rattle.cl_ticket.specs.Weights.{weigh, Each}
use Rattle.cl_ticket.specs.Rule.{process_view, name_of, if_eval, opened, is, marks, numbers, Agrees, Fits, FitsHistory, FitsHalt, halters, Holds}
use Rattle.cl_ticket.specs.Steps.{name_at, with_halt, with_sight, standing, Halted, Sighted, participant_in, others_in}
use Rattle.cl_ticket.specs.Participants.{Participant}
use Rattle.cl_ticket.specs.declared.view.View.{View}
use Rattle.atomic_table.proofs.Lists.{set_here}
use Rattle.cl_ticket.proofs.Sums.{at-within, weigh-set, weigh-at, each-at, each-set, each-map}
use Rattle.cl_ticket.proofs.Keeps.{Balances, listed-after, replaces-one}
use Rattle.cl_ticket.proofs.Keeps as kept
use Rattle.cl_ticket.proofs.Moves.{Kept}

-- the participant with other marks of halting
abbrev marked_so : Participant → Bool → List (Option ℕ) → Participant
marked_so p f s = record { origin = p.origin; acts = p.acts; full = p.full; failed = f; saw = s }

same-balance : (p : Participant) (f : Bool) (s : List (Option ℕ)) (rest : List Participant) → Balances (process_view (p ∷ rest) ∷ []) (process_view (marked_so p f s ∷ rest) ∷ [])
same-balance p f s rest = record { sets = λ h. refl; participants = λ h. refl; born = λ h. refl; numbered = λ h. refl; root = refl; quiet = omega arith; grown = λ h. omega arith; marked = λ x. omega arith }

-- A step that changes word 1 and what the participant knows of it
changes : (words : List ℕ) (views : List View) (id m : ℕ) (p : Participant) (f : Bool) (s : List (Option ℕ)) (rest : List Participant) (h : Holds words views) → get_elem? views id ≡ some (process_view (p ∷ rest))
    → (new : List ℕ) → new ≡ suc h.n ∷ m ∷ [] → Each (FitsHalt m) (set views id (process_view (marked_so p f s ∷ rest))) → (0 < m → 1 ≤ weigh (halters m) (set views id (process_view (marked_so p f s ∷ rest)))) → Holds new (set views id (process_view (marked_so p f s ∷ rest)))
changes words views id m p f s rest h at new same_words halted halting =
    let v = process_view (p ∷ rest) in
    let w = process_view (marked_so p f s ∷ rest) in
    let fits : Fits v = each-at Fits views id v at h.ruled.fits in
    let known_sets : FitsHistory h.history v = each-at (FitsHistory h.history) views id v at h.marked in
    record {
      n = h.n;
      m = m;
      at = same_words;
      ruled = kept.keeps h.n views (set views id w) (v ∷ []) (w ∷ []) (replaces-one views id v w at) (same-balance p f s rest) (each-set Fits views id w h.ruled.fits fits) h.ruled;
      history = h.history;
      marked = each-set (FitsHistory h.history) views id w h.marked known_sets;
      listed = λ x.
          let a = weigh-set (marks x) views id v w at in
          let b = weigh-set (numbers (is x)) views id v w at in
          listed-after (weigh (marks x) views) (weigh (numbers (is x)) views) (weigh (marks x) (set views id w)) (weigh (numbers (is x)) (set views id w)) 0 (h.listed x) (omega arith) (omega arith) (omega arith);
      unwritten = λ some_opening. let x = weigh-set opened views id v w at in let more : 0 < weigh opened views = omega arith in h.unwritten more;
      halted = halted;
      halting = halting;
    }

-- what a name that is written first means for what was known before
first-halt : (m : ℕ) (v : View) → FitsHalt 0 v → FitsHalt m v
first-halt m v all = each-map (Agrees 0) (Agrees m) v.participants (λ p x. ((λ failed. let e = x.0 failed in absurd (omega arith)), each-map (λ (q : Option ℕ). IfSome q (λ name. 0 ≡ suc name)) (λ (q : Option ℕ). IfSome q (λ name. m ≡ suc name)) p.saw none-yet x.1)) all
  where
    none-yet : (q : Option ℕ) → IfSome q (λ name. 0 ≡ suc name) → IfSome q (λ name. m ≡ suc name)
    none-yet None e = e
    none-yet (Some name) e = absurd (omega arith)

own-halter : (p : Participant) (s : List (Option ℕ)) (rest : List Participant) → 1 ≤ halters (suc (name_of p.origin)) (process_view (marked_so p true s ∷ rest))
own-halter p s rest = let e : if_eval (eqb (suc (name_of p.origin)) (suc (name_of p.origin))) 1 ≡ 1 = ap (λ b. if_eval b 1) (eq-eqb (suc (name_of p.origin)) (suc (name_of p.origin)) refl) in omega arith

more-halters : (m : ℕ) (p : Participant) (s : List (Option ℕ)) (rest : List Participant) → halters m (process_view (p ∷ rest)) ≤ halters m (process_view (marked_so p true s ∷ rest))
more-halters m p s rest = by-flag p.failed
  where
    by-flag : (b : Bool) → if_eval b (if_eval (eqb m (suc (name_of p.origin))) 1) + weigh (λ (q : Participant). if_eval q.failed (if_eval (eqb m (suc (name_of q.origin))) 1)) rest ≤ if_eval (eqb m (suc (name_of p.origin))) 1 + weigh (λ (q : Participant). if_eval q.failed (if_eval (eqb m (suc (name_of q.origin))) 1)) rest
    by-flag true = omega arith
    by-flag false = omega arith

module _ (st : State (Unit {0}) View) (id : ℕ) (p : Participant) (rest : List Participant) (h : Holds st.words st.views) (at : get_elem? st.views id ≡ some (process_view (p ∷ rest))) where
  -- by what stood in word 1
  halt-by : (m : ℕ) → h.m ≡ m → (new : List ℕ) → new ≡ suc h.n ∷ standing (suc (name_of p.origin)) m ∷ [] → Holds new (set st.views id (process_view (with_halt p (standing (suc (name_of p.origin)) m) ∷ rest)))
  halt-by zero e new is =
      let x = suc (name_of p.origin) in
      let w = process_view (with_halt p x ∷ rest) in
      let old : Each (FitsHalt 0) st.views = subst (λ k. Each (FitsHalt k) st.views) e h.halted in
      let now : Each (FitsHalt x) st.views = each-map (FitsHalt 0) (FitsHalt x) st.views (λ v f. first-halt x v f) old in
      let mine' : FitsHalt x (process_view (p ∷ rest)) = each-at (FitsHalt x) st.views id (process_view (p ∷ rest)) at now in
      changes st.words st.views id x p true (name_at x ∷ p.saw) rest h at new is (each-set (FitsHalt x) st.views id w now (((λ failed. omega arith), (refl, mine'.0.1)), mine'.1))
      (λ some_name. let a = weigh-at (halters x) (set st.views id w) id w (set_here st.views id w (at-within st.views id (process_view (p ∷ rest)) at)) in let b = own-halter p (name_at x ∷ p.saw) rest in omega arith)
  halt-by (suc m) e new is =
      let x = suc m in
      let w = process_view (with_halt p x ∷ rest) in
      let old : Each (FitsHalt x) st.views = subst (λ k. Each (FitsHalt k) st.views) e h.halted in
      let mine' : FitsHalt x (process_view (p ∷ rest)) = each-at (FitsHalt x) st.views id (process_view (p ∷ rest)) at old in
      let some_halter : 1 ≤ weigh (halters x) st.views = subst (λ k. 0 < k → 1 ≤ weigh (halters k) st.views) e h.halting (omega arith) in
      changes st.words st.views id x p true (name_at x ∷ p.saw) rest h at new is (each-set (FitsHalt x) st.views id w old (((λ failed. omega arith), (refl, mine'.0.1)), mine'.1))
      (λ some_name. let a = weigh-set (halters x) st.views id (process_view (p ∷ rest)) w at in let b = more-halters x p (name_at x ∷ p.saw) rest in omega arith)

  sight-by : (m : ℕ) → h.m ≡ m → (new : List ℕ) → new ≡ suc h.n ∷ m ∷ [] → Holds new (set st.views id (process_view (with_sight p (name_at m) ∷ rest)))
  sight-by zero e new is =
      let w = process_view (with_sight p None ∷ rest) in
      let old : Each (FitsHalt 0) st.views = subst (λ k. Each (FitsHalt k) st.views) e h.halted in
      let mine' : FitsHalt 0 (process_view (p ∷ rest)) = each-at (FitsHalt 0) st.views id (process_view (p ∷ rest)) at old in
      changes st.words st.views id 0 p p.failed (None ∷ p.saw) rest h at new is (each-set (FitsHalt 0) st.views id w old ((mine'.0.0, (tt, mine'.0.1)), mine'.1)) (λ none. absurd (omega arith))
  sight-by (suc m) e new is =
      let x = suc m in
      let w = process_view (with_sight p (Some m) ∷ rest) in
      let old : Each (FitsHalt x) st.views = subst (λ k. Each (FitsHalt k) st.views) e h.halted in
      let mine' : FitsHalt x (process_view (p ∷ rest)) = each-at (FitsHalt x) st.views id (process_view (p ∷ rest)) at old in
      let some_halter : 1 ≤ weigh (halters x) st.views = subst (λ k. 0 < k → 1 ≤ weigh (halters k) st.views) e h.halting (omega arith) in
      changes st.words st.views id x p p.failed (Some m ∷ p.saw) rest h at new is (each-set (FitsHalt x) st.views id w old ((mine'.0.0, (refl, mine'.0.1)), mine'.1)) (λ some_name. let a = weigh-set (halters x) st.views id (process_view (p ∷ rest)) w at in omega arith)

  -- what was known of word 1 agrees with what stands there afterwards
  knows : FitsHalt h.m (process_view (p ∷ rest))
  knows = each-at (FitsHalt h.m) st.views id (process_view (p ∷ rest)) at h.halted

  knows-by : (m : ℕ) → h.m ≡ m → FitsHalt (standing (suc (name_of p.origin)) m) (process_view (p ∷ rest))
  knows-by zero e = first-halt (suc (name_of p.origin)) (process_view (p ∷ rest)) (subst (λ k. FitsHalt k (process_view (p ∷ rest))) e knows)
  knows-by (suc m) e = subst (λ k. FitsHalt k (process_view (p ∷ rest))) e knows

stands-so : (mine m : ℕ) → either (m == 0) mine m ≡ standing mine m
stands-so mine zero = refl
stands-so mine (suc k) = ap (λ b. either b mine (suc k)) (ne_eqb (suc k) 0 (λ e. omega arith))

halts : (slots id : ℕ) (p : Participant) (rest : List Participant) → Allows Kept slots id (process_view (p ∷ rest), []) 1 (λ n. either (n == 0) (suc (name_of p.origin)) n) (λ found after. Halted (suc (name_of p.origin)) (process_view (p ∷ rest)) found after.0 × (after.1 ≡ []))
halts slots id p rest st h homes at fits =
    let x = suc (name_of p.origin) in
    let found : slice_index st.words 1 ≡ h.m = ap (λ (l : List ℕ). slice_index l 1) h.at in
    let words : slice_set st.words 1 (either (slice_index st.words 1 == 0) x (slice_index st.words 1)) ≡ suc h.n ∷ standing x h.m ∷ [] = ap (λ (l : List ℕ). slice_set l 1 (either (slice_index l 1 == 0) x (slice_index l 1))) h.at ∙ ap (λ (k : ℕ). suc h.n ∷ k ∷ []) (stands-so x h.m) in (
      process_view (with_halt p (standing x h.m) ∷ rest),
      keeps,
      tt,
      halt-by st id p rest h at h.m refl (slice_set st.words 1 (either (slice_index st.words 1 == 0) x (slice_index st.words 1))) words,
      ((ap (λ (k : ℕ). process_view (with_halt p (standing x k) ∷ rest)) (sym found), subst (λ (k : ℕ). Each (Agrees (standing x k)) (p ∷ rest)) (sym found) (knows-by st id p rest h at h.m refl)), refl),
    )

sights : (slots id : ℕ) (p : Participant) (rest : List Participant) → Allows Kept slots id (process_view (p ∷ rest), []) 1 (λ n. n) (λ found after. Sighted (process_view (p ∷ rest)) found after.0 × (after.1 ≡ []))
sights slots id p rest st h homes at fits =
    let found : slice_index st.words 1 ≡ h.m = ap (λ (l : List ℕ). slice_index l 1) h.at in
    let words : slice_set st.words 1 (slice_index st.words 1) ≡ suc h.n ∷ h.m ∷ [] = ap (λ (l : List ℕ). slice_set l 1 (slice_index l 1)) h.at in (
      process_view (with_sight p (name_at h.m) ∷ rest),
      keeps,
      tt,
      sight-by st id p rest h at h.m refl (slice_set st.words 1 (slice_index st.words 1)) words,
      ((ap (λ (k : ℕ). process_view (with_sight p (name_at k) ∷ rest)) (sym found), subst (λ (k : ℕ). Each (Agrees k) (p ∷ rest)) (sym found) (knows st id p rest h at)), refl),
    )

-- the same, at a view that is known
pub halts_as : (slots id mine : ℕ) (me : Me (Unit {0}) View) → me ≡ (process_view (participant_in me.0.participants ∷ others_in me.0.participants), []) → mine ≡ suc (name_of (participant_in me.0.participants).origin)
    → Allows Kept slots id me 1 (λ n. either (n == 0) mine n) (λ found after. Halted mine me.0 found after.0 × (after.1 ≡ []))
halts_as slots id mine me is name =
    subst (λ (k : ℕ). Allows Kept slots id me 1 (λ n. either (n == 0) k n) (λ found after. Halted k me.0 found after.0 × (after.1 ≡ []))) (sym name)
    (subst (λ (x : Me (Unit {0}) View). Allows Kept slots id x 1 (λ n. either (n == 0) (suc (name_of (participant_in me.0.participants).origin)) n) (λ found after. Halted (suc (name_of (participant_in me.0.participants).origin)) x.0 found after.0 × (after.1 ≡ []))) (sym is)
    (halts slots id (participant_in me.0.participants) (others_in me.0.participants)))

pub sights_as : (slots id : ℕ) (me : Me (Unit {0}) View) → me ≡ (process_view (participant_in me.0.participants ∷ others_in me.0.participants), []) → Allows Kept slots id me 1 (λ n. n) (λ found after. Sighted me.0 found after.0 × (after.1 ≡ []))
sights_as slots id me is = subst (λ (x : Me (Unit {0}) View). Allows Kept slots id x 1 (λ n. n) (λ found after. Sighted x.0 found after.0 × (after.1 ≡ []))) (sym is) (sights slots id (participant_in me.0.participants) (others_in me.0.participants))

pub whole-process : (me : Me (Unit {0}) View) → me.0 ≡ process_view (participant_in me.0.participants ∷ others_in me.0.participants) → me.1 ≡ [] → me ≡ (process_view (participant_in me.0.participants ∷ others_in me.0.participants), [])
whole-process me is none = λ i. (is i, none i)
