-- Opening, leaving and being born keep the rule.
use Rattle.std.proofs.Common.{◌≡◌, ℕ, ◌+◌, ◌<◌, List, [], ◌∷◌, ◌++◌, set, drop, refl, sym, arith, true≢false}
use mathlib.Core.Option.{some}
use lib.ListN.{get_elem?}
use Rattle.cl_ticket.specs.Weights.{weigh, under, Each}
use Rattle.cl_ticket.specs.Rule.{opening_view, process_view, of_participants, evals, births, known, marks, FitsParticipant, FitsHalt, FitsUnborn, halters, Holds}
use Rattle.cl_ticket.specs.Steps.{left_opening, right_opening, left_last, left_leave, right_leave, left_born, right_born, first_born}
use mathlib.Core.List.{IsPrefix}
use Rattle.cl_value.specs.Plain.{PlainAct}
use Rattle.cl_ticket.specs.Participants.{Participant, Mark, Birth}
use Rattle.cl_ticket.specs.declared.view.View.{View}
use Rattle.cl_ticket.proofs.Keeps.{Balances, cuts}

pub begins : Holds (1 ∷ 0 ∷ []) (opening_view 0 ∷ [])
begins = record {
  n = 0;
  at = refl;
  history = λ k. [];
  m = 0;
  halted = (tt, tt);
  halting = λ e. absurd (omega arith);
  marked = ((tt, tt), tt);
  listed = λ x e. absurd (omega arith);
  unwritten = λ e k. refl;
  ruled = record { tickets = λ h. refl; owners = λ h. refl; born = λ h. refl; numbered = λ h. refl; root = refl; quiet = λ e. refl; fits = ((tt, tt, (omega arith, tt), tt), tt) };
}

opens-balances : (k : ℕ) → Balances (opening_view k ∷ []) (left_opening (opening_view k) ∷ right_opening (opening_view k) ∷ [])
opens-balances k = record { sets = λ h. refl; participants = λ h. refl; born = λ h. refl; numbered = λ h. omega arith; root = refl; quiet = omega arith; grown = λ h. omega arith; marked = λ x. omega arith }

-- a set is opened
pub opens : (words : List ℕ) (views : List View) (id k : ℕ) → k < 1024 → Holds words views → get_elem? views id ≡ some (opening_view k) → Holds words (set views id (left_opening (opening_view k)) ++ right_opening (opening_view k) ∷ [])
opens words views id k lt h e = cuts words views id (opening_view k) (left_opening (opening_view k)) (right_opening (opening_view k)) h e (opens-balances k) (λ f. ((tt, tt, (omega arith, tt), tt), (((tt, omega arith), tt), tt, tt, tt))) (λ history none m. ((tt, tt), ((sym (none (omega arith) k), tt), tt))) (λ m. ((λ x. (tt, tt)), refl))

last-balances : (k : ℕ) → Balances (opening_view k ∷ []) (left_last (opening_view k) ∷ right_opening (opening_view k) ∷ [])
last-balances k = record { sets = λ h. refl; participants = λ h. refl; born = λ h. refl; numbered = λ h. omega arith; root = refl; quiet = omega arith; grown = λ h. omega arith; marked = λ x. omega arith }

-- the last set is opened
pub opens-last : (words : List ℕ) (views : List View) (id k : ℕ) → k < 1024 → Holds words views → get_elem? views id ≡ some (opening_view k) → Holds words (set views id (left_last (opening_view k)) ++ right_opening (opening_view k) ∷ [])
opens-last words views id k lt h e = cuts words views id (opening_view k) (left_last (opening_view k)) (right_opening (opening_view k)) h e (last-balances k) (λ f. ((tt, ((tt, tt, omega arith), tt), tt, tt), (((tt, omega arith), tt), tt, tt, tt))) (λ history none m. ((tt, (tt, tt)), ((sym (none (omega arith) k), tt), tt))) (λ m. ((λ x. ((((λ failed. absurd (true≢false (sym failed))), tt), tt), tt)), refl))

leave-balances : (v : View) → Balances (v ∷ []) (left_leave v ∷ right_leave v ∷ [])
leave-balances v = record { sets = λ h. omega arith; participants = λ h. omega arith; born = λ h. omega arith; numbered = λ h. omega arith; root = omega arith; quiet = omega arith; grown = λ h. omega arith; marked = λ x. omega arith }

-- who stands in a set leaves it
pub leaves : (words : List ℕ) (views : List View) (id : ℕ) (v : View) → Holds words views → get_elem? views id ≡ some v → Holds words (set views id (left_leave v) ++ right_leave v ∷ [])
leaves words views id v h e = cuts words views id v (left_leave v) (right_leave v) h e (leave-balances v) (λ f. ((f.0, tt, f.2, f.3), (tt, f.1, tt, tt))) (λ history none m. ((m.0, tt), (tt, m.1))) (λ m. ((λ x. (tt, x)), omega arith))

born-weighs : (h : Birth → ℕ) (u : List Birth) → weigh h u ≡ births h (process_view (first_born u)) + weigh h (drop 1 u)
born-weighs h [] = refl
born-weighs h (b ∷ more) = omega arith

born-evals : (h : Birth → ℕ) (u : List Birth) → evals h (process_view (first_born u)) ≡ 0
born-evals h [] = refl
born-evals h (b ∷ more) = refl

born-known : (f : ℕ → ℕ) (u : List Birth) → known f (process_view (first_born u)) ≡ 0
born-known f [] = refl
born-known f (b ∷ more) = refl

each-rest : (P : Birth → Type 0) (l : List Birth) → Each P l → Each P (drop 1 l)
each-rest P [] all = tt
each-rest P (b ∷ more) all = all.1

born-fits : (u : List Birth) → Each FitsParticipant (first_born u)
born-fits [] = tt
born-fits (b ∷ more) = ((tt, tt, omega arith), tt)

born-halt : (m : ℕ) (u : List Birth) → FitsHalt m (process_view (first_born u))
born-halt m [] = tt
born-halt m (b ∷ more) = (((λ failed. absurd (true≢false (sym failed))), tt), tt)

born-halters : (m : ℕ) (u : List Birth) → halters m (process_view (first_born u)) ≡ 0
born-halters m [] = refl
born-halters m (b ∷ more) = refl

born-marks : (history : ℕ → List PlainAct) (u : List Birth) → Each (λ (p : Participant). Each (λ (m : Mark). IsPrefix m.acts (history m.set)) p.full) (first_born u)
born-marks history [] = tt
born-marks history (b ∷ more) = (tt, tt)

born-unmarked : (x : ℕ) (u : List Birth) → marks x (process_view (first_born u)) ≡ 0
born-unmarked x [] = refl
born-unmarked x (b ∷ more) = refl

born-acts : (h : _) (u : List Birth) → of_participants h (process_view (first_born u)) ≡ 0
born-acts h [] = refl
born-acts h (b ∷ more) = refl

born-balances : (v : View) → Balances (v ∷ []) (left_born v ∷ right_born v ∷ [])
born-balances v = record {
  sets = λ h. omega arith;
  participants = λ h. omega (arith, born-acts h v.unborn);
  born = λ h. let a = born-weighs h v.unborn in let b = born-evals h v.unborn in omega arith;
  numbered = λ h. omega (arith, born-known (under h) v.unborn);
  root = omega (arith, born-known (λ k. 1) v.unborn);
  quiet = omega arith;
  grown = λ h. omega arith;
  marked = λ x. omega (arith, born-unmarked x v.unborn);
}

-- the process of the last eval is born
pub bears : (words : List ℕ) (views : List View) (id : ℕ) (v : View) → Holds words views → get_elem? views id ≡ some v → Holds words (set views id (left_born v) ++ right_born v ∷ [])
bears words views id v h e = cuts words views id v (left_born v) (right_born v) h e (born-balances v) (λ f. ((f.0, f.1, f.2, each-rest (FitsUnborn v) v.unborn f.3), (tt, born-fits v.unborn, tt, tt))) (λ history none m. ((m.0, m.1), (tt, born-marks history v.unborn))) (λ m. ((λ x. (x, born-halt m v.unborn)), omega (arith, born-halters m v.unborn)))
