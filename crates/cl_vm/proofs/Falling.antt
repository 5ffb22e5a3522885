-- Each step brings an engine nearer to its end.
use Rattle.std.proofs.Common.{◌≡◌, ℕ, suc, ◌+◌, ◌-◌, ◌*◌, ◌<◌, ◌≤◌, Bool, true, false, List, length, Some, sym, ap, ◌∙◌, subst, arith, ⊎_elim, suc-mul, mul-le-mul_right}
use Rattle.std.specs.Prelude.{slice_get, if◌then◌else◌}
use Rattle.std.proofs.lemmas.Bool.{cases_lt}
use Rattle.std.proofs.lemmas.Option.{slice_get_within}
use Rattle.cl_model.specs.Doing.{Gives}
use Rattle.cl_code.specs.Plain.{PlainFunction, PlainProgram}
use Rattle.cl_code.specs.Rules.{is_tick}
use Rattle.cl_code.specs.Valid.{Valid}
use Rattle.cl_code.specs.Machine.{Frame, Way, On, To, Past, Over, Into, Lost, effect}
use Rattle.cl_code.specs.declared.instr.Instr.{Instr}
use Rattle.cl_code.specs.declared.instr.Instr.TheVariants.{Tick}
use Rattle.cl_code.proofs.Fine.{is_fine}
use Rattle.cl_code.proofs.Keeping.{AimsBy, Keeps, keeps}
use Rattle.cl_vm.specs.Engine.{state_of, StandsBy, IsNear, ActsAs, Ticks, Calls, Returns}
use Rattle.cl_vm.specs.Runs.{tick_bit, distance, distance_of, Falls}
use Rattle.cl_vm.specs.declared.engine.Engine.{Engine}
use Rattle.cl_vm.specs.declared.engine.Flow.{Flow}
use Rattle.cl_vm.specs.declared.engine.Flow.TheVariants as flows
use Rattle.cl_vm.proofs.Needs.{call_fits}

-- ---- numbers

rest_is_small : (length frames place : ℕ) → frames ≤ 255 → frames * suc length + (suc length - place) < 257 * suc length
rest_is_small length frames place few = let m = mul-le-mul_right (suc length) few in omega (arith, m)

first_falls : (length x y frames place frames' place' : ℕ) → x < y → frames ≤ 255 → x * (257 * suc length) + (frames * suc length + (suc length - place)) < y * (257 * suc length) + (frames' * suc length + (suc length - place'))
first_falls length x y frames place frames' place' less few =
    let r = rest_is_small length frames place few in
    let m = mul-le-mul_right (257 * suc length) less in
    let s = suc-mul x (257 * suc length) in
    omega (arith, r, m, s)

bit_small : (p : PlainProgram) (place : ℕ) → tick_bit p place ≤ 1
bit_small p place = small (is_tick (slice_get p.code place))
  where
    small : (t : Bool) → (if t then 0 else 1) ≤ 1
    small true = omega arith
    small false = omega arith

-- ---- one step

module _ (p : PlainProgram) (valid : Valid p) (e : Engine) (i : Instr) (here : slice_get p.code e.place ≡ Some i) where
  within : e.place < length p.code
  within = slice_get_within p.code e.place i here

  bit_is : (b : Bool) → is_tick (Some i) ≡ b → tick_bit p e.place ≡ (if b then 0 else 1)
  bit_is b is = ap (λ o. if is_tick o then 0 else 1) here ∙ ap (λ t. if t then 0 else 1) is

  -- on in the same function, with as many ticks
  pub on_falls : is_tick (Some i) ≡ false → (place : ℕ) → ((place ≤ e.place) → slice_get p.code place ≡ Some Tick) → length e.memory.frames ≤ 255 → distance (length p.code) e.ticks (tick_bit p place) (length e.memory.frames) place < distance_of p e
  on_falls other place back few =
      let before = bit_is false other in
      let w = within in
      ⊎_elim
      (λ lt. ⊎_elim
      (λ small. first_falls (length p.code) (2 * e.ticks + tick_bit p place) (2 * e.ticks + tick_bit p e.place) (length e.memory.frames) place (length e.memory.frames) e.place (omega (arith, before, small)) few)
      (λ large. let b = bit_small p place in let same : tick_bit p place ≡ tick_bit p e.place = omega (arith, before, large, b) in
      subst (λ (n : ℕ). distance (length p.code) e.ticks n (length e.memory.frames) place < distance_of p e) (sym same) (omega (arith, lt, w)))
      (cases_lt (tick_bit p place) 1))
      (λ le. let at : tick_bit p place ≡ 0 = ap (λ o. if is_tick o then 0 else 1) (back le) in
      first_falls (length p.code) (2 * e.ticks + tick_bit p place) (2 * e.ticks + tick_bit p e.place) (length e.memory.frames) place (length e.memory.frames) e.place (omega (arith, before, at)) few)
      (cases_lt e.place place)

  abbrev past : Engine
  past = record e { place = suc e.place }

  near_distance : (place : ℕ) (new : Engine) → new.place ≡ place → IsNear past new → distance_of p new ≡ distance (length p.code) e.ticks (tick_bit p place) (length e.memory.frames) place
  near_distance place new at near =
      ap (λ (a : ℕ). distance (length p.code) new.ticks (tick_bit p a) (length new.memory.frames) a) at
      ∙ ap (λ (t : ℕ). distance (length p.code) t (tick_bit p place) (length new.memory.frames) place) near.ticks
      ∙ ap (λ (fs : List Frame). distance (length p.code) e.ticks (tick_bit p place) (length fs) place) near.frames

  near_falls : is_tick (Some i) ≡ false → (place : ℕ) → ((place ≤ e.place) → slice_get p.code place ≡ Some Tick) → length e.memory.frames ≤ 255 → (new : Engine) → new.place ≡ place → IsNear past new → distance_of p new < distance_of p e
  near_falls other place back few new at near = subst (λ (n : ℕ). n < distance_of p e) (sym (near_distance place new at near)) (on_falls other place back few)

  way_falls : is_tick (Some i) ≡ false → length e.memory.frames ≤ 255 → (way : Way) → AimsBy p.code e.place way → (new : Engine) → StandsBy way past new → IsNear past new → distance_of p new < distance_of p e
  way_falls other few (On stack) aims new stands near = near_falls other (suc e.place) (λ le. absurd (omega (arith, le))) few new stands.0 near
  way_falls other few (To to stack) aims new stands near = near_falls other to aims few new stands.0 near
  way_falls other few (Past stack) aims new stands near = absurd stands
  way_falls other few (Over n) aims new stands near = absurd stands
  way_falls other few (Into f ns stack) aims new stands near = absurd stands
  way_falls other few Lost aims new stands near = absurd stands

  pub acts_falls : is_tick (Some i) ≡ false → length e.memory.frames ≤ 255 → (flow : Flow) (new : Engine) → ActsAs (effect p e.depth i) past flow new → Falls p e flow new
  acts_falls other few flows.On new (way, does, stands, near) =
      let kept : Keeps e.ticks (AimsBy p.code e.place) (Gives (way, state_of new)) = subst (Keeps e.ticks (AimsBy p.code e.place)) does (keeps p.code e.place p e.depth i (is_fine p valid.rules e.place i here) e.memory.stack (state_of e)) in
      way_falls other few way kept.1 new stands near
  acts_falls other few (flows.Stop t) new h = tt
  acts_falls other few (flows.Over n) new h = tt
  acts_falls other few (flows.Ask site) new h = tt

  tick_counts : (new : Engine) → 0 < e.ticks → new.ticks ≡ e.ticks - 1 → length new.memory.frames ≤ 255 → distance_of p new < distance_of p e
  tick_counts new some less few =
      let b = bit_small p new.place in
      first_falls (length p.code) (2 * new.ticks + tick_bit p new.place) (2 * e.ticks + tick_bit p e.place) (length new.memory.frames) new.place (length e.memory.frames) e.place (omega (arith, b, some, less)) few

  pub tick_falls : length e.memory.frames ≤ 255 → (flow : Flow) (new : Engine) → Ticks past flow new → Falls p e flow new
  tick_falls few flows.On new (some, is) = tick_counts new some (ap (λ (x : Engine). x.ticks) is) (subst (λ (x : Engine). length x.memory.frames ≤ 255) (sym is) few)
  tick_falls few (flows.Stop t) new h = tt
  tick_falls few (flows.Over n) new h = tt
  tick_falls few (flows.Ask site) new h = tt

  pub call_falls : (f : PlainFunction) (flow : Flow) (new : Engine) → Calls f past flow new → Falls p e flow new
  call_falls f flows.On new (h, is) =
      let fits = call_fits f past h in
      tick_counts new fits.ticks (ap (λ (x : Engine). x.ticks) is) (subst (λ (x : Engine). length x.memory.frames ≤ 255) (sym is) (omega (arith, fits.depth)))
  call_falls f (flows.Stop t) new h = tt
  call_falls f (flows.Over n) new h = tt
  call_falls f (flows.Ask site) new h = tt

  leave_falls : is_tick (Some i) ≡ false → (new : Engine) → new.ticks ≡ e.ticks → suc (length new.memory.frames) ≡ length e.memory.frames → length e.memory.frames ≤ 255 → distance_of p new < distance_of p e
  leave_falls other new ticks less few =
      let before = bit_is false other in
      let w = within in
      let b = bit_small p new.place in
      let m : length e.memory.frames * suc (length p.code) ≡ length new.memory.frames * suc (length p.code) + suc (length p.code) = ap (λ (n : ℕ). n * suc (length p.code)) (sym less) ∙ suc-mul (length new.memory.frames) (suc (length p.code)) in
      ⊎_elim
      (λ small. first_falls (length p.code) (2 * new.ticks + tick_bit p new.place) (2 * e.ticks + tick_bit p e.place) (length new.memory.frames) new.place (length e.memory.frames) e.place (omega (arith, before, small, ticks)) (omega (arith, few, less)))
      (λ large. let same : 2 * new.ticks + tick_bit p new.place ≡ 2 * e.ticks + tick_bit p e.place = omega (arith, before, large, b, ticks) in
      subst (λ (n : ℕ). n * (257 * suc (length p.code)) + (length new.memory.frames * suc (length p.code) + (suc (length p.code) - new.place)) < distance_of p e) (sym same) (omega (arith, m, w)))
      (cases_lt (tick_bit p new.place) 1)

  pub return_falls : is_tick (Some i) ≡ false → length e.memory.frames ≤ 255 → (flow : Flow) (new : Engine) → Returns past flow new → Falls p e flow new
  return_falls other few flows.On new (n, mid, frame, frames, was, is, to) =
      leave_falls other new
      (ap (λ (x : Engine). x.ticks) to ∙ ap (λ (x : Engine). x.ticks) (sym was))
      (ap (λ (x : Engine). suc (length x.memory.frames)) to ∙ ap (λ (fs : List Frame). length fs) (sym is) ∙ ap (λ (x : Engine). length x.memory.frames) (sym was))
      few
  return_falls other few (flows.Stop t) new h = tt
  return_falls other few (flows.Over n) new h = tt
  return_falls other few (flows.Ask site) new h = tt
