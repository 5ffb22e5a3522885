-- How many cells are in use without the functions that are waited for.
use Rattle.std.proofs.Common.{◌≡◌, ℕ, suc, ◌+◌, List, ◌∷◌, length, sym, ap, ◌∙◌, subst, arith}
use Rattle.std.specs.Prelude.{ℤ}
use Rattle.cl_code.specs.Plain.{PlainFunction}
use Rattle.cl_code.specs.Machine.{Does, Frame, Stack, Way}
use Rattle.cl_vm.specs.Engine.{ActsAs, Calls, IsNear, Returns, Shown, Ticks, left_with, with_number}
use Rattle.cl_vm.specs.Runs.{BasedOn, IsBased, claims}
use Rattle.cl_vm.specs.declared.engine.Engine.{Engine}
use Rattle.cl_vm.specs.declared.engine.Flow.{Flow}
use Rattle.cl_vm.specs.declared.engine.Flow.TheVariants as flows

module _ (depth claimed : ℕ) (e : Engine) (based : IsBased depth claimed e) where
  abbrev past : Engine
  past = record e { place = suc e.place }

  near_based : (new : Engine) → IsNear past new → IsBased depth claimed new
  near_based new near =
      let globals = near.sizes.4 in
      record {
        depth = near.depth ∙ based.depth;
        base = based.base;
        cells = near.cells ∙ based.cells ∙ ap (λ (fs : List Frame). based.base + claims fs) (sym near.frames);
        enough = omega (arith, globals, based.enough);
      }

  pub acts_based : (d : Stack → Does Way) (flow : Flow) (new : Engine) → ActsAs d past flow new → BasedOn depth claimed flow new
  acts_based d flows.On new (way, does, stands, near) = near_based new near
  acts_based d (flows.Stop t) new h = tt
  acts_based d (flows.Over n) new h = absurd h
  acts_based d (flows.Ask site) new h = absurd h

  pub tick_based : (flow : Flow) (new : Engine) → Ticks past flow new → BasedOn depth claimed flow new
  tick_based flows.On new (some, is) = subst (λ (x : Engine). IsBased depth claimed x) (sym is) (record { depth = based.depth; base = based.base; cells = based.cells; enough = based.enough })
  tick_based (flows.Stop t) new h = tt
  tick_based (flows.Over n) new h = absurd h
  tick_based (flows.Ask site) new h = absurd h

  pub call_based : (f : PlainFunction) (flow : Flow) (new : Engine) → Calls f past flow new → BasedOn depth claimed flow new
  call_based f flows.On new (none, is) = subst (λ (x : Engine). IsBased depth claimed x) (sym is) (record { depth = based.depth; base = based.base; cells = omega (arith, based.cells); enough = based.enough })
  call_based f (flows.Stop t) new h = tt
  call_based f (flows.Over n) new h = absurd h
  call_based f (flows.Ask site) new h = absurd h

  -- behind a number that was taken
  taken_based : (n : ℤ) (mid : Engine) → past ≡ with_number n mid → IsBased depth claimed mid
  taken_based n mid was =
      let cells = ap (λ (x : Engine). x.cells) was in
      let globals = ap (λ (x : Engine). length x.memory.globals) was in
      record {
        depth = sym (ap (λ (x : Engine). x.depth) was) ∙ based.depth;
        base = based.base;
        cells = sym cells ∙ based.cells ∙ ap (λ (x : Engine). based.base + claims x.memory.frames) was;
        enough = omega (arith, globals, based.enough);
      }

  left_based : (n : ℤ) (mid : Engine) (frame : Frame) (frames : List Frame) → mid.memory.frames ≡ frame ∷ frames → IsBased depth claimed mid → IsBased depth claimed (left_with n frame frames mid)
  left_based n mid frame frames is h =
      let all = ap claims is in
      record { depth = h.depth; base = h.base; cells = omega (arith, h.cells, all); enough = h.enough }

  pub return_based : (flow : Flow) (new : Engine) → Returns past flow new → BasedOn depth claimed flow new
  return_based flows.On new (n, mid, frame, frames, was, is, to) = subst (λ (x : Engine). IsBased depth claimed x) (sym to) (left_based n mid frame frames is (taken_based n mid was))
  return_based (flows.Over n) new (was, is) = taken_based n new was
  return_based (flows.Stop t) new h = tt
  return_based (flows.Ask site) new h = absurd h

  pub shown_based : (bytes : List ℕ) (rest : List ℤ) (flow : Flow) (new : Engine) → Shown bytes rest past flow new → BasedOn depth claimed flow new
  shown_based bytes rest flows.On new (added, few, cap, to) = subst (λ (x : Engine). IsBased depth claimed x) (sym to) (record { depth = based.depth; base = based.base; cells = based.cells; enough = based.enough })
  shown_based bytes rest (flows.Stop t) new h = tt
  shown_based bytes rest (flows.Over n) new h = absurd h
  shown_based bytes rest (flows.Ask site) new h = absurd h
