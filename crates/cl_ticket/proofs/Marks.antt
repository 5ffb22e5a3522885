-- What is known of full sets stays a beginning of the set's acts.
use Rattle.std.proofs.Common.{◌≡◌, ◌≢◌, ℕ, eqb, eq-eqb, ne_eqb, zero, suc, ◌+◌, ◌≤◌, List, [], ◌∷◌, ◌++◌, set, Bool, true, false, refl, sym, ap, subst, arith, ◌∙◌, append_assoc, append-nil}
use mathlib.Core.Option.{some}
use mathlib.Core.List.{IsPrefix}
use mathlib.Core.Logic.{dite}
use native.Mathlib.Decide.{ℕ_discrete}
use lib.ListN.{get_elem?}
use Rattle.cl_ticket.specs.Weights.{weigh, under, Each}
use Rattle.cl_ticket.specs.Rule.{set_view, spent, by_birth, by_root, depth_of, if_eval, is, marks, numbers, known, FitsParticipant, FitsHistory, FitsHalt, name_of, process_view, Ruled, Holds}
use Rattle.cl_ticket.specs.Steps.{IsSet, with_mark, with_marks, set_in, drawn_view, left_leave, right_full}
use Rattle.cl_value.specs.Plain.{PlainAct, PlainHistory}
use Rattle.cl_value.specs.Acts.{is_eval}
use Rattle.cl_ticket.specs.Participants.{Birth, Mark, Origin, Root, Born, Participant}
use Rattle.cl_ticket.specs.declared.view.View.{View}
use Rattle.cl_ticket.proofs.Sums.{weigh-set, weigh-less, weigh-none, each-at, each-set, each-map, each-both, set-twice}
use Rattle.cl_ticket.proofs.Keeps.{Balances, cuts}
use Rattle.cl_ticket.proofs.Points.{is-here, is-else}

abbrev pub chosen : Bool → List PlainAct → List PlainAct → List PlainAct
chosen true l m = l
chosen false l m = m

pub under-past : (x n : ℕ) → n ≤ x → under (is x) n ≡ 0
under-past x zero le = refl
under-past x (suc n) le = let e = is-else x n (λ same. omega arith) in omega (arith, under-past x n (omega arith))

under-once : (x n : ℕ) → under (is x) n ≤ 1
under-once x zero = omega arith
under-once x (suc n) = dite (ℕ_discrete n x)
    (λ (e : n ≡ x). let a = is-here x n e in let b = under-past x n (omega arith) in omega arith)
    (λ (ne : n ≢ x). let a = is-else x n ne in omega (arith, under-once x n))

known-less : (f g : ℕ → ℕ) → ((k : ℕ) → f k ≤ g k) → (v : View) → known f v ≤ known g v
known-less f g le v = let a = weigh-less f g le v.opening in let b = weigh-less (λ (p : Participant). by_root f p.origin) (λ (p : Participant). by_root g p.origin) (λ p. one p.origin) v.participants in omega arith
  where
    one : (o : Origin) → by_root f o ≤ by_root g o
    one (Root k) = le k
    one (Born b) = omega arith

-- no other view has a set of this number
pub others-apart : (n : ℕ) (views : List View) (id : ℕ) (s : PlainHistory) (guest : List Participant) (u : List Birth) → Ruled n views → get_elem? views id ≡ some (set_view s guest u)
    → Each (λ (v : View). Each (λ (t : PlainHistory). t.set ≢ s.set) v.sets) (set views id spent)
others-apart n views id s guest u r at =
    let x = s.set in
    let a = r.numbered (is x) in
    let b = weigh-less (known (under (is x))) (known (λ k. 1)) (known-less (under (is x)) (λ k. 1) (under-once x)) views in
    let c = r.root in
    let d = weigh-set (numbers (is x)) views id (set_view s guest u) spent at in
    let e = is-here x x refl in
    let none : weigh (numbers (is x)) (set views id spent) ≡ 0 = omega arith in
    each-map (λ (v : View). numbers (is x) v ≡ 0) (λ (v : View). Each (λ (t : PlainHistory). t.set ≢ x) v.sets) (set views id spent)
    (λ v z. each-map (λ (t : PlainHistory). is x t.set ≡ 0) (λ (t : PlainHistory). t.set ≢ x) v.sets (λ t zero_there same. let one = is-here x t.set same in omega arith) (weigh-none (λ (t : PlainHistory). is x t.set) v.sets z))
    (weigh-none (numbers (is x)) (set views id spent) none)

-- the acts of each number, with one more
abbrev pub written : (ℕ → List PlainAct) → ℕ → PlainAct → ℕ → List PlainAct
written history x a k = chosen (eqb k x) (history k ++ a ∷ []) (history k)

written-here : (history : ℕ → List PlainAct) (x : ℕ) (a : PlainAct) → written history x a x ≡ history x ++ a ∷ []
written-here history x a = ap (λ b. chosen b (history x ++ a ∷ []) (history x)) (eq-eqb x x refl)

written-else : (history : ℕ → List PlainAct) (x k : ℕ) (a : PlainAct) → k ≢ x → written history x a k ≡ history k
written-else history x k a ne = ap (λ b. chosen b (history k ++ a ∷ []) (history k)) (ne_eqb k x ne)

longer : (b : Bool) (l m : List PlainAct) (a : PlainAct) → IsPrefix l m → IsPrefix l (chosen b (m ++ a ∷ []) m)
longer true l m a p = (p.0 ++ a ∷ [], sym (append_assoc l p.0 (a ∷ [])) ∙ ap (λ (k : List PlainAct). k ++ a ∷ []) p.1)
longer false l m a p = p

marks-written : (history : ℕ → List PlainAct) (x : ℕ) (a : PlainAct) (l : List Participant) → Each (λ (p : Participant). Each (λ (m : Mark). IsPrefix m.acts (history m.set)) p.full) l → Each (λ (p : Participant). Each (λ (m : Mark). IsPrefix m.acts (written history x a m.set)) p.full) l
marks-written history x a l all = each-map (λ (p : Participant). Each (λ (m : Mark). IsPrefix m.acts (history m.set)) p.full) (λ (p : Participant). Each (λ (m : Mark). IsPrefix m.acts (written history x a m.set)) p.full) l
    (λ p one. each-map (λ (m : Mark). IsPrefix m.acts (history m.set)) (λ (m : Mark). IsPrefix m.acts (written history x a m.set)) p.full (λ m q. longer (eqb m.set x) m.acts (history m.set) a q) one) all

other-written : (history : ℕ → List PlainAct) (x : ℕ) (a : PlainAct) (v : View) → FitsHistory history v → Each (λ (t : PlainHistory). t.set ≢ x) v.sets → FitsHistory (written history x a) v
other-written history x a v f apart =
    (each-map (λ (t : PlainHistory). (t.acts ≡ history t.set) × (t.set ≢ x)) (λ (t : PlainHistory). t.acts ≡ written history x a t.set) v.sets (λ t q. q.0 ∙ sym (written-else history x t.set a q.1)) (each-both (λ (t : PlainHistory). t.acts ≡ history t.set) (λ (t : PlainHistory). t.set ≢ x) v.sets f.0 apart), marks-written history x a v.participants f.1)

-- a drawn act keeps what is known of full sets
pub draws-marked : (n : ℕ) (views : List View) (id : ℕ) (s : PlainHistory) (p : Participant) (rest : List Participant) (u : List Birth) (a : PlainAct) (history : ℕ → List PlainAct) → Ruled n views → get_elem? views id ≡ some (set_view s (p ∷ rest) u) → Each (FitsHistory history) views
    → Each (FitsHistory (written history s.set a)) (set views id (drawn_view a s p rest u))
draws-marked n views id s p rest u a history r at all =
    let x = s.set in
    let now : List PlainAct = s.acts ++ a ∷ [] in
    let mine : FitsHistory history (set_view s (p ∷ rest) u) = each-at (FitsHistory history) views id (set_view s (p ∷ rest) u) at all in
    let others : Each (FitsHistory history) (set views id spent) = each-set (FitsHistory history) views id spent all (tt, tt) in
    let apart = others-apart n views id s (p ∷ rest) u r at in
    let others' : Each (FitsHistory (written history x a)) (set views id spent) = each-map (λ (v : View). FitsHistory history v × Each (λ (t : PlainHistory). t.set ≢ x) v.sets) (FitsHistory (written history x a)) (set views id spent) (λ v q. other-written history x a v q.0 q.1) (each-both (FitsHistory history) (λ (v : View). Each (λ (t : PlainHistory). t.set ≢ x) v.sets) (set views id spent) others apart) in
    let here : now ≡ written history x a x = ap (λ (l : List PlainAct). l ++ a ∷ []) mine.0.0 ∙ sym (written-here history x a) in
    let w = drawn_view a s p rest u in
    let mine' : FitsHistory (written history x a) w = ((here, tt), marks-written history x a (p ∷ rest) mine.1) in
    subst (Each (FitsHistory (written history x a))) (set-twice views id spent w) (each-set (FitsHistory (written history x a)) (set views id spent) id w others' mine')

-- ---- who leaves a full set
marks-weigh : (f : Participant → ℕ) (s : PlainHistory) → ((p : Participant) → f (with_mark p s) ≡ f p) → (l : List Participant) → weigh f (with_marks l s) ≡ weigh f l
marks-weigh f s e [] = refl
marks-weigh f s e (p ∷ more) = let q = e p in omega arith

-- the mark is of the set of the view
mark-weighs : (x : ℕ) (s : PlainHistory) (l : List Participant) → marks x (process_view (with_marks l s)) ≤ marks x (process_view l) + is x s.set
mark-weighs x s [] = omega arith
mark-weighs x s (p ∷ more) = omega arith

full-balances : (v : View) → IsSet v → Balances (v ∷ []) (left_leave v ∷ right_full v ∷ [])
full-balances v whole_set = let s = set_in v.sets in record {
  sets = λ h. omega arith;
  participants = λ h. let a = marks-weigh (λ (p : Participant). weigh h p.acts) s (λ p. refl) v.participants in omega arith;
  born = λ h.
      let a = marks-weigh (λ (p : Participant). by_birth h p.origin) s (λ p. refl) v.participants in
      let b = marks-weigh (λ (p : Participant). weigh (λ (x : PlainAct). if_eval (is_eval x.what) (h record { act = x; depth = suc (depth_of p.origin) })) p.acts) s (λ p. refl) v.participants in
      omega arith;
  numbered = λ h. let a = marks-weigh (λ (p : Participant). by_root (under h) p.origin) s (λ p. refl) v.participants in omega arith;
  root = let a = marks-weigh (λ (p : Participant). by_root (λ k. 1) p.origin) s (λ p. refl) v.participants in omega arith;
  quiet = omega arith;
  grown = λ h. omega arith;
  marked = λ x. let a = mark-weighs x s v.participants in let b : numbers (is x) v ≡ is x s.set + 0 = ap (numbers (is x)) whole_set in omega arith;
}

full-fits : (s : PlainHistory) (l : List Participant) → Each FitsParticipant l → Each FitsParticipant (with_marks l s)
full-fits s [] all = tt
full-fits s (p ∷ more) all = all

begins-so : (history : ℕ → List PlainAct) (l : List PlainHistory) → Each (λ (s : PlainHistory). s.acts ≡ history s.set) l → IsPrefix (set_in l).acts (history (set_in l).set)
begins-so history [] all = (history 0, refl)
begins-so history (s ∷ more) all = ([], append-nil s.acts ∙ all.0)

full-marks : (history : ℕ → List PlainAct) (s : PlainHistory) (l : List Participant) → IsPrefix s.acts (history s.set) → Each (λ (p : Participant). Each (λ (m : Mark). IsPrefix m.acts (history m.set)) p.full) l → Each (λ (p : Participant). Each (λ (m : Mark). IsPrefix m.acts (history m.set)) p.full) (with_marks l s)
full-marks history s [] b all = tt
full-marks history s (p ∷ more) b all = ((b, all.0), all.1)

full-halt : (m : ℕ) (s : PlainHistory) (l : List Participant) → FitsHalt m (process_view l) → FitsHalt m (process_view (with_marks l s))
full-halt m s [] all = tt
full-halt m s (p ∷ more) all = all

-- who stands in a full set leaves it
pub leaves-full : (words : List ℕ) (views : List View) (id : ℕ) (v : View) → IsSet v → Holds words views → get_elem? views id ≡ some v → Holds words (set views id (left_leave v) ++ right_full v ∷ [])
leaves-full words views id v whole_set h e = cuts words views id v (left_leave v) (right_full v) h e (full-balances v whole_set) (λ f. ((f.0, tt, f.2, f.3), (tt, full-fits (set_in v.sets) v.participants f.1, tt, tt)))
    (λ history none m. ((m.0, tt), (tt, full-marks history (set_in v.sets) v.participants (begins-so history v.sets m.0) m.1)))
    (λ m. ((λ x. (tt, full-halt m (set_in v.sets) v.participants x)), let a = marks-weigh (λ (p : Participant). if_eval p.failed (if_eval (eqb m (suc (name_of p.origin))) 1)) (set_in v.sets) (λ p. refl) v.participants in omega arith))
