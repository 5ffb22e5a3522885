-- How a process begins, and how it goes on behind a reply.
use Rattle.std.proofs.Common.{◌≡◌, ℕ, ◌<◌, ◌≤◌, Bool, true, false, List, [], ◌∷◌, length, drop, Option, Some, None, refl, sym, ap, ◌∙◌, subst, arith}
use Rattle.std.specs.Prelude.{map, if◌then◌else◌}
use Rattle.cl_value.specs.Acts.{fits}
use Rattle.cl_value.specs.LiveViews.{plain_part}
use Rattle.cl_value.specs.Plain.{PlainPart, PlainReply, PlainStart, Main, Lives}
use Rattle.cl_value.specs.Views.{plain_ask}
use Rattle.cl_value.specs.declared.live.LiveField.{LiveField}
use Rattle.cl_value.specs.declared.process.Trap.TheVariants.{CellLimit}
use Rattle.cl_value.specs.declared.request.Request.{Request}
use Rattle.cl_value.specs.declared.value.Value.{Value}
use Rattle.cl_model.specs.Demand.{Misfit}
use Rattle.cl_model.specs.Doing.{Stops}
use Rattle.cl_code.specs.Laws.{IsNeverWrong}
use Rattle.cl_code.specs.Plain.{PlainProgram}
use Rattle.cl_code.specs.Process.{CodeDemand, Goes, code_demand, code_demand_of}
use Rattle.cl_code.specs.Valid.{Valid}
use Rattle.cl_vm.specs.Asks.{at_operation, count_at, told_engine}
use Rattle.cl_vm.specs.Engine.{Behind, onward}
use Rattle.cl_vm.specs.Hears.{Fits, Heard}
use Rattle.cl_vm.specs.Outermost.{IsSound, behind_call, between}
use Rattle.cl_vm.specs.Processes.{EntersAt, FitsRequest, HasClaimed, IsHeld, IsNew, Stood, rest_of}
use Rattle.cl_vm.specs.Runs.{IsBased}
use Rattle.cl_vm.specs.declared.engine.Engine.{Engine}
use Rattle.cl_vm.specs.declared.starting.Progress.{Progress}
use Rattle.cl_vm.specs.declared.starting.Progress.TheVariants as reached
use Rattle.cl_vm.specs.declared.vm.Demand.TheVariants as demands
use Rattle.cl_vm.specs.declared.vm.Vm.{Vm}
use Rattle.cl_vm.proofs.Calling.{claimed_idle, main_begins, live_begins, main_stops, live_stops}

no_fields : (fields : List LiveField) → map plain_part fields ≡ [] → fields ≡ []
no_fields [] h = refl
no_fields (field ∷ fields) h = absurd cc

held_on : (p : PlainProgram) (untold : ℕ) (e : Engine) (vm : Vm) → IsHeld p untold vm → IsHeld p untold (record vm { engine = e })
held_on p untold e vm held = record { fits = held.fits; ready = held.ready; next = held.next; short = held.short; room = held.room; few = held.few }

-- ---- the beginning

module _ (p : PlainProgram) (steps : ℕ) where
  module _ (valid : Valid p) (never : IsNeverWrong) where
    pub new_claimed : (start : PlainStart) (vm : Vm) → IsNew p steps start vm → length p.globals ≤ 65536 → HasClaimed p (code_demand p steps start) (record vm { engine = record vm.engine { cells = length p.globals } })
    new_claimed Main vm new few =
        let e = record vm.engine { cells = length p.globals } in
        record {
          held = held_on p 0 e vm new.held;
          idle = claimed_idle p steps 0 vm.engine new.fresh few;
          fine = never p valid steps Main new.fits;
          enters = subst (λ (o : Option ℕ). EntersAt o p (code_demand p steps Main) (record vm { engine = e })) (sym new.origin) (no_fields vm.fields.items new.parts, new.values, main_begins p steps 0 vm.engine new.fresh refl few);
        }
    new_claimed (Lives site live depth) vm new few =
        let e = record vm.engine { cells = length p.globals } in
        let parts : drop vm.next (map plain_part vm.fields.items) ≡ live = ap (λ (n : ℕ). drop n (map plain_part vm.fields.items)) new.next ∙ new.parts in
        record {
          held = held_on p 0 e vm new.held;
          idle = claimed_idle p steps depth vm.engine new.fresh few;
          fine = never p valid steps (Lives site live depth) new.fits;
          enters = subst (λ (o : Option ℕ). EntersAt o p (code_demand p steps (Lives site live depth)) (record vm { engine = e })) (sym new.origin) (
            omega (arith, new.next, new.some),
            λ replies.
                live_begins p steps depth vm.engine new.fresh few site live replies
                ∙ ap (λ (d : ℕ). between p d live [] e replies) (sym new.fresh.depth_is)
                ∙ ap (λ (ps : List PlainPart). between p e.depth ps [] e replies) (sym parts)
                ∙ ap (λ (vs : List Value). between p e.depth (drop vm.next (map plain_part vm.fields.items)) vs e replies) (sym new.values),
          );
        }

  pub new_stops : (start : PlainStart) (vm : Vm) → IsNew p steps start vm → 65536 < length p.globals → (replies : List PlainReply) → code_demand p steps start replies ≡ code_demand_of (Stops CellLimit) vm.engine.output.items replies
  new_stops Main vm new many replies = main_stops p steps 0 vm.engine new.fresh many replies
  new_stops (Lives site live depth) vm new many replies = live_stops p steps depth vm.engine new.fresh many site live replies

-- ---- a reply

pub sound_depth : (p : PlainProgram) (depth claimed : ℕ) (progress : Progress) (e : Engine) → IsSound p depth claimed progress e → IsSound p e.depth claimed progress e
sound_depth p depth claimed (reached.Finished v) e (idle, same) = (idle, refl)
sound_depth p depth claimed (reached.Trapped t) e sound = tt
sound_depth p depth claimed (reached.Op site) e (runs, here, based) = (runs, here, record { depth = refl; base = based.base; cells = based.cells; enough = based.enough })

abbrev fits_ask : PlainReply → Option Request → Bool
fits_ask told None = false
fits_ask told (Some request) = fits (plain_ask request.ask) told

module _ (p : PlainProgram) (demanded : List PlainReply → CodeDemand) (vm : Vm) (stood : Stood p demanded demands.Op vm) (told : PlainReply) (fit : FitsRequest told vm) where
  abbrev e : Engine
  e = vm.engine

  abbrev behind : Behind
  behind = behind_call p e.depth vm.claimed vm.gives (rest_of vm) vm.values.items

  -- the reply fits what is asked for
  pub fits_there : Fits p vm.site told e
  fits_there =
      let (held, sound, leads, request, is, at, signature, found, asks) = stood in
      let (other, other_is, h) = fit in
      let same : Some other ≡ Some request = sym other_is ∙ is in
      record {
        signature = signature;
        is = found;
        ask = plain_ask request.ask;
        asks = λ behind replies. asks behind replies ∙ ap (λ (n : ℕ). at_operation p behind e (count_at p vm.site signature) signature (record { site = n; ask = plain_ask request.ask }) replies) at;
        fit = subst (λ (o : Option Request). fits_ask told o ≡ true) same h;
      }

  abbrev chosen : Fits p vm.site told e → List PlainReply → Bool → CodeDemand
  chosen there replies b = if b then onward p behind (told_engine (count_at p vm.site there.signature) there.signature told e) replies else record { output = e.output.items; outcome = Goes Misfit }

  -- as much is demanded behind it
  pub heard_leads : (new : Engine) → Heard p vm.site told e new → (replies : List PlainReply) → demanded (told ∷ replies) ≡ onward p behind new replies
  heard_leads new heard replies =
      let (held, sound, leads, request, is, at, signature, found, asks) = stood in
      let there = fits_there in
      leads (told ∷ replies)
      ∙ there.asks behind (told ∷ replies)
      ∙ ap (chosen there replies) there.fit
      ∙ ap (λ (x : Engine). onward p behind x replies) (sym (heard there.signature there.is))

  pub heard_based : (new : Engine) → Heard p vm.site told e new → IsBased e.depth vm.claimed new
  heard_based new heard =
      let (held, sound, leads, request, is, at, signature, found, asks) = stood in
      let (runs, here, based) = sound in
      subst (λ (x : Engine). IsBased e.depth vm.claimed x) (sym (heard signature found)) (record { depth = refl; base = based.base; cells = based.cells; enough = based.enough })
