-- In a valid program the heights of the stack are met wherever the machine comes, and jumps are right.
use Rattle.std.proofs.Common.{arith, ◌≤◌, ◌≡◌, ◌∙◌, ℕ, suc, true, List, [], ◌∷◌, length, Option, Some, None, refl, sym, subst, inl, inr, ltb-true}
use Rattle.std.specs.Prelude.{ℤ, slice_get, nat_lt}
use Rattle.std.proofs.lemmas.Option.{same_Some}
use Rattle.cl_value.specs.Plain.{PlainRequest}
use Rattle.cl_model.specs.Doing.{Steps, Gives, Prints, Asks, Stops, State}
use Rattle.cl_code.specs.Plain.{PlainFunction, PlainProgram}
use Rattle.cl_code.specs.Reach.{height_behind}
use Rattle.cl_code.specs.Rules.{may_jump}
use Rattle.cl_code.specs.Valid.{Valid}
use Rattle.cl_code.specs.Requests.{IsRightRequest}
use Rattle.cl_code.specs.Machine.{Cells, Way, On, To, Past, Over, Into, Lost, effect}
use Rattle.cl_code.specs.Positions.{Caller, Position, MayGive, MayLead, entry_of, returned_to, led_to, Reached, Begins, GoesOn}
use Rattle.cl_code.specs.Laws.{HeightsAreMet, StacksAreLow, GoesByInstructions, IsRightJump, JumpsRight}
use Rattle.cl_code.specs.declared.instr.Instr.TheVariants.{Jump, JumpZero}
use Rattle.cl_code.proofs.Holds.{Holds}
use Rattle.cl_code.proofs.Effects.{LeadsBy, After, leads}
use Rattle.cl_code.proofs.Flow.{At, Leaps, at_height, rule_4_at, reaches, enough, on_next, on_jump, reaches_by, entered_at}
use Rattle.cl_code.proofs.Safe.{sites}
use Rattle.cl_code.proofs.Fine.{is_fine, steps}
use Rattle.cl_code.proofs.Keeping.{Aims}
use Rattle.cl_code.proofs.Tests.{left, right}

-- what holds of all that steps may give holds of this
may_hold : {A : Type 0} (R : PlainRequest → Type 0) (P : A × State Cells → Type 0) (d : Steps (A × State Cells)) (a : A) → Holds R P d → MayGive d a → (r : A × State Cells) × P r × (r.0 ≡ a)
may_hold R P (Gives r) a h is = (r, h, is)
may_hold R P (Prints bytes rest) a h is = may_hold R P rest a h is
may_hold R P (Asks q rest) a h (reply, fit, is) = may_hold R P (rest reply) a (h.1 reply fit) is
may_hold R P (Stops t) a h is = absurd is

-- ---- positions

abbrev CallerFits : PlainProgram → Caller → Type 0
CallerFits p caller = (f : PlainFunction) × At p f caller.place (suc (length caller.stack)) × (suc (length caller.stack) ≤ f.stack)

abbrev CallersFit : PlainProgram → List Caller → Type 0
CallersFit p [] = Unit {0}
CallersFit p (caller ∷ callers) = CallerFits p caller × CallersFit p callers

-- the address has the stack's height, which the function admits; for those that wait too
abbrev Fits : PlainProgram → Position → Type 0
Fits p x = ((f : PlainFunction) × At p f x.place (length x.stack) × (length x.stack ≤ f.stack)) × CallersFit p x.callers

module _ (p : PlainProgram) (valid : Valid p) (depth : ℕ) where
  entry_fits : (callers : List Caller) (k : ℕ) (f : Option PlainFunction) → slice_get p.functions k ≡ f → CallersFit p callers → (y : Position) → entry_of callers f ≡ Some y → Fits p y
  entry_fits callers k None is fit y e = absurd cc
  entry_fits callers k (Some f) is fit y e = subst (Fits p) (same_Some (record { callers = callers; place = f.entry; stack = [] }) y e) ((f, entered_at p valid.rules k f is, omega arith), fit)

  return_fits : (callers : List Caller) (n : ℤ) → CallersFit p callers → (y : Position) → returned_to callers n ≡ Some y → Fits p y
  return_fits [] n fit y e = absurd cc
  return_fits (caller ∷ callers) n (first, rest) y e = subst (Fits p) (same_Some (record { callers = callers; place = caller.place; stack = n ∷ caller.stack }) y e) (first, rest)

  led_fits : (x : Position) → Fits p x → (f : PlainFunction) (h : ℕ) (way : Way) → LeadsBy p (Unit {0}) (Leaps p f x.place h) (suc x.place) h way → (y : Position) → led_to p x way ≡ Some y → Fits p y
  led_fits x fit f h (On stack) (leap, same) y e = subst (Fits p) (same_Some (record { callers = x.callers; place = suc x.place; stack = stack }) y e) ((f, at_height p f (suc x.place) h (length stack) (sym same) leap.0, omega (arith, same, leap.2)), fit.1)
  led_fits x fit f h (To to stack) (leap, same) y e = subst (Fits p) (same_Some (record { callers = x.callers; place = to; stack = stack }) y e) ((f, at_height p f to h (length stack) (sym same) leap.0, omega (arith, same, leap.2)), fit.1)
  led_fits x fit f h (Past stack) (leap, same) y e = subst (Fits p) (same_Some (record { callers = x.callers; place = suc x.place; stack = stack }) y e) ((f, at_height p f (suc x.place) h (length stack) (sym same) leap.0, omega (arith, same, leap.2)), fit.1)
  led_fits x fit f h (Over n) way_leads y e = return_fits x.callers n fit.1 y e
  led_fits x fit f h (Into k ns stack) (leap, same, takes) y e = entry_fits _ k (slice_get p.functions k) refl ((f, at_height p f (suc x.place) h (suc (length stack)) (sym same) leap.0, omega (arith, same, leap.2)), fit.1) y e
  led_fits x fit f h Lost way_leads y e = absurd cc

  goes_on : (x : Position) → Fits p x → (way : Way) → MayLead p depth x way → (y : Position) → led_to p x way ≡ Some y → Fits p y
  goes_on x fit way (i, here, s, may) y e =
      let (f, at, low) = fit.0 in
      let h : ℕ = height_behind p i (length x.stack) in
      let R : PlainRequest → Type 0 = λ q. IsRightRequest p depth q in
      let (r, after, is) = may_hold R (After p depth (Unit {0}) R f (Leaps p f x.place h) (suc x.place) h s.ticks) (effect p depth i x.stack s) way
      (leads p depth (Unit {0}) R f (Leaps p f x.place h) (suc x.place) h x.place (rule_4_at p valid.rules) (sites p valid.rules valid.typed depth) i x.stack (reaches p valid.rules f x.place (length x.stack) at i here) (enough p valid.rules f x.place (length x.stack) at i here) refl (on_next p valid.rules f x.place (length x.stack) at i here) (on_jump p valid.rules f x.place (length x.stack) at i here) s (inl tt))
      may
      in
      led_fits x fit f h way (subst (λ w. LeadsBy p (Unit {0}) (Leaps p f x.place h) (suc x.place) h w) is after.2) y e

  reached_fits : (x : Position) → Reached p depth x → Fits p x
  reached_fits x (Begins k _ e) = entry_fits [] k (slice_get p.functions k) refl tt x e
  reached_fits y (GoesOn x way _ reached may e) = goes_on x (reached_fits x reached) way may y e

pub heights_are_met : HeightsAreMet
heights_are_met p valid depth x reached = (reached_fits p valid depth x reached).0.1.height_is

pub stacks_are_low : StacksAreLow
stacks_are_low p valid depth x reached f owner =
    let (g, at, low) = (reached_fits p valid depth x reached).0 in
    subst (λ (h : PlainFunction). length x.stack ≤ h.stack) (same_Some g f (sym at.owner ∙ owner)) low

pub goes_by_instructions : GoesByInstructions
goes_by_instructions p valid depth frames a i here stack = steps p valid.rules depth frames a i here stack

right_jump : (p : PlainProgram) (here to : ℕ) → may_jump p here to ≡ true → Aims p.code here to → IsRightJump p here to
right_jump p here to may aims =
    record {
      within = ltb-true to (length p.code) (left _ _ may);
      same = left _ _ (right (nat_lt to (length p.code)) _ may);
      tick = aims;
    }

pub jumps_right : JumpsRight
jumps_right p valid here to (inl is) = right_jump p here to (reaches_by p valid.rules here (Jump to) is).1 (is_fine p valid.rules here (Jump to) is)
jumps_right p valid here to (inr is) = right_jump p here to (reaches_by p valid.rules here (JumpZero to) is).1 (is_fine p valid.rules here (JumpZero to) is)
