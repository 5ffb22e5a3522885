-- What the table's calls ask, at views that are known.
use Rattle.std.proofs.Common.{◌≡◌, ℕ, suc, ◌+◌, ◌%◌, ◌^◌, ◌<◌, ◌≤◌, List, [], ◌∷◌, length, set, refl, sym, ap, subst, arith, ◌∙◌}
use Rattle.std.specs.Prelude.{slice_index, slice_set}
use Rattle.atomic_table.specs.Table.{State, Me, keeps, Allows, Splits, Joins}
use Rattle.cl_ticket.specs.Weights.{weigh}
use Rattle.cl_ticket.specs.Rule.{opening_view, set_view, spent, both, opened, is, marks, numbers, FitsHalt, halters, Holds}
use Rattle.cl_ticket.specs.Steps.{IsSet, set_in, participant_in, others_in, act_of, drawn_view, Drawn, left_opening, right_opening, left_last, left_leave, right_leave, right_full, left_born, right_born}
use Rattle.cl_value.specs.Plain.{PlainWhat, PlainHistory}
use Rattle.cl_ticket.specs.Participants.{Birth, Participant}
use Rattle.cl_ticket.specs.declared.view.View.{View}
use Rattle.cl_ticket.proofs.Keeps.{joins, listed-after}
use Rattle.cl_ticket.proofs.Cuts.{opens, opens-last, leaves, bears}
use Rattle.cl_ticket.proofs.Draws.{draws-ruled, sets-within, participants-within, name-within, few-acts, no-opening}
use Rattle.cl_ticket.proofs.Marks.{draws-marked, written, leaves-full}
use Rattle.cl_ticket.proofs.Sums.{weigh-set, each-set, each-at}

abbrev pub Kept : State (Unit {0}) View → Type 0
Kept s = Holds s.words s.views

pub enters_as : (id other : ℕ) (v w : View) → Joins Kept id v other w (both v w) spent
enters_as id other v w s h e apart e' = joins s.words s.views id other v w h e apart e'

pub opens_as : (id k : ℕ) (v : View) → v ≡ opening_view k → k < 1024 → Splits Kept id v (left_opening v) (right_opening v)
opens_as id k v is lt = subst (λ (x : View). Splits Kept id x (left_opening x) (right_opening x)) (sym is) (λ s h e. opens s.words s.views id k lt h e)

pub opens_last_as : (id k : ℕ) (v : View) → v ≡ opening_view k → k < 1024 → Splits Kept id v (left_last v) (right_opening v)
opens_last_as id k v is lt = subst (λ (x : View). Splits Kept id x (left_last x) (right_opening x)) (sym is) (λ s h e. opens-last s.words s.views id k lt h e)

pub leaves_as : (id : ℕ) (v : View) → Splits Kept id v (left_leave v) (right_leave v)
leaves_as id v s h e = leaves s.words s.views id v h e

pub leaves_full_as : (id : ℕ) (v : View) → IsSet v → Splits Kept id v (left_leave v) (right_full v)
leaves_full_as id v whole_set s h e = leaves-full s.words s.views id v whole_set h e

pub bears_as : (id : ℕ) (v : View) → Splits Kept id v (left_born v) (right_born v)
bears_as id v s h e = bears s.words s.views id v h e

abbrev Tells : ℕ → PlainWhat → View → ℕ → Me (Unit {0}) View → Type 0
Tells site what v found after = Drawn site what v found after.0 × (after.1 ≡ [])

next-word : (n : ℕ) → n ≤ 17179869184 → (suc n + 1) % 2 ^ 64 ≡ suc (suc n)
next-word n le = omega arith

draws : (slots id site : ℕ) (what : PlainWhat) (s : PlainHistory) (p : Participant) (rest : List Participant) (u : List Birth) → length s.acts < 16777216
    → Allows Kept slots id (set_view s (p ∷ rest) u, []) 0 (λ n. (n + 1) % 2 ^ 64) (Tells site what (set_view s (p ∷ rest) u))
draws slots id site what s p rest u room st h homes at fits =
    let n = h.n in
    let v = set_view s (p ∷ rest) u in
    let most : suc n ≤ 17179869185 = let few = few-acts n st.views h.ruled in omega arith in
    let found : slice_index st.words 0 ≡ suc n = ap (λ (l : List ℕ). slice_index l 0) h.at in
    let w = drawn_view (act_of site what p (suc n)) s p rest u in
    let words : slice_set st.words 0 ((slice_index st.words 0 + 1) % 2 ^ 64) ≡ suc (suc n) ∷ h.m ∷ [] =
    ap (λ (l : List ℕ). slice_set l 0 ((slice_index l 0 + 1) % 2 ^ 64)) h.at ∙ ap (λ (k : ℕ). k ∷ h.m ∷ []) (next-word n (few-acts n st.views h.ruled)) in (
      w,
      keeps,
      tt,
      record {
        n = suc n;
        at = words;
        ruled = draws-ruled n s p rest u site what st.views id room h.ruled at;
        history = written h.history s.set (act_of site what p (suc n));
        marked = draws-marked n st.views id s p rest u (act_of site what p (suc n)) h.history h.ruled at h.marked;
        listed = λ x.
            let c = weigh-set (marks x) st.views id v w at in
            let d = weigh-set (numbers (is x)) st.views id v w at in
            listed-after (weigh (marks x) st.views) (weigh (numbers (is x)) st.views) (weigh (marks x) (set st.views id w)) (weigh (numbers (is x)) (set st.views id w)) 0 (h.listed x) (omega arith) (omega arith) (omega arith);
        m = h.m;
        halted = each-set (FitsHalt h.m) st.views id w h.halted (each-at (FitsHalt h.m) st.views id v at h.halted);
        halting = λ stands. let c = weigh-set (halters h.m) st.views id v w at in let t = h.halting stands in omega arith;
        unwritten = λ some_opening. let c = weigh-set opened st.views id v w at in let z = no-opening n st.views id p rest s u h.ruled at p.origin refl in absurd (omega arith);
      },
      subst (λ (k : ℕ). Tells site what v k (w, [])) (sym found)
          ((refl, (sets-within n st.views id v h.ruled at).0, (participants-within n st.views id v h.ruled at).0, name-within n st.views id p rest s u h.ruled at p.origin refl, most), refl),
    )

pub draws_as : (slots id site : ℕ) (what : PlainWhat) (me : Me (Unit {0}) View) (s : PlainHistory) (p : Participant) (rest : List Participant) (u : List Birth) → me ≡ (set_view s (p ∷ rest) u, []) → length s.acts < 16777216
    → Allows Kept slots id me 0 (λ n. (n + 1) % 2 ^ 64) (Tells site what me.0)
draws_as slots id site what me s p rest u is room = subst (λ (m : Me (Unit {0}) View). Allows Kept slots id m 0 (λ n. (n + 1) % 2 ^ 64) (Tells site what m.0)) (sym is) (draws slots id site what s p rest u room)

-- a set's view with its guest, whole
pub whole : (me : Me (Unit {0}) View) → me.0 ≡ set_view (set_in me.0.sets) me.0.participants me.0.unborn → me.0.participants ≡ participant_in me.0.participants ∷ others_in me.0.participants → me.1 ≡ []
    → me ≡ (set_view (set_in me.0.sets) (participant_in me.0.participants ∷ others_in me.0.participants) me.0.unborn, [])
whole me is guest none = let v : me.0 ≡ set_view (set_in me.0.sets) (participant_in me.0.participants ∷ others_in me.0.participants) me.0.unborn = is ∙ ap (λ (ps : List Participant). set_view (set_in me.0.sets) ps me.0.unborn) guest in λ i. (v i, none i)
