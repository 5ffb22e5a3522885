-- One instruction after another.
use Rattle.std.proofs.Common.{◌≡◌, ◌≤◌, length, ℕ, suc, ◌-◌, Some, refl, sym, ap, ◌∙◌, subst, arith}
use Rattle.std.specs.Prelude.{slice_get}
use Rattle.cl_code.specs.Plain.{PlainProgram}
use Rattle.cl_code.specs.Valid.{Valid}
use Rattle.cl_code.specs.Sites.{parameters_or_none}
use Rattle.cl_code.specs.Laws.{HeightsAreMet, StacksAreLow, GoesByInstructions}
use Rattle.cl_code.specs.declared.instr.Instr.{Instr}
use Rattle.cl_code.specs.declared.instr.Instr.TheVariants.{Tick, Call, Return, Print, Perform}
use Rattle.cl_vm.specs.Engine.{Acted}
use Rattle.cl_code.specs.Machine.{effect}
use Rattle.cl_vm.specs.Runs.{IsBased, Runs, Stepped, Leads}
use Rattle.cl_vm.proofs.Based.{acts_based, tick_based, call_based, return_based, shown_based}
use Rattle.cl_vm.specs.declared.engine.Engine.{Engine}
use Rattle.cl_vm.specs.declared.engine.Flow.{Flow}
use Rattle.cl_vm.proofs.Needs.{low_enough, stack_low, needs_met}
use Rattle.cl_vm.proofs.Moves.{acts_led, acts_runs, tick_led, tick_runs, returns_led, returns_runs}
use Rattle.cl_vm.proofs.Falling.{acts_falls, tick_falls, call_falls, return_falls}
use Rattle.cl_vm.proofs.Showing.{shown_led, shown_runs, shown_falls}
use Rattle.cl_vm.proofs.Entering.{call_led, call_runs}

module _ (p : PlainProgram) (valid : Valid p) (heights : HeightsAreMet) (stacks : StacksAreLow) (goes : GoesByInstructions) (e : Engine) (runs : Runs p e) where
  abbrev past : Engine
  past = record e { place = suc e.place }

  back : record e { place = suc e.place - 1 } ≡ e
  back = ap (λ (n : ℕ). record e { place = n }) (omega arith)

  few : length e.memory.frames ≤ 255
  few = omega (arith, runs.roomy.frames)

  called : (k : ℕ) → slice_get p.code e.place ≡ Some (Call k) → (flow : Flow) (new : Engine) → Acted p (Call k) past flow new → Stepped p e flow new
  called k here flow new (f, is, done) =
      let needs = needs_met p valid heights stacks goes e runs (Call k) here in
      let enough = subst (λ o. length (parameters_or_none o) ≤ length e.memory.stack) is needs.operands in
      record {
        led = call_led p valid goes e k here f is enough flow new done;
        based = λ depth claimed based. call_based depth claimed e based f flow new done;
        runs = call_runs p valid goes e k here f is enough flow new done runs (stack_low p valid heights stacks e runs.reached runs.roomy) (low_enough p valid heights stacks e runs.reached runs.roomy) needs.function;
        falls = call_falls p valid e (Call k) here f flow new done;
      }

  pub stepped : (i : Instr) → slice_get p.code e.place ≡ Some i → (flow : Flow) (new : Engine) → Acted p i past flow new → Stepped p e flow new
  stepped Tick here flow new acted = record { led = tick_led p valid goes e here flow new acted; runs = tick_runs p valid goes e here flow new acted runs; based = λ depth claimed based. tick_based depth claimed e based flow new acted; falls = tick_falls p valid e Tick here few flow new acted }
  stepped (Call k) here flow new acted = called k here flow new acted
  stepped Return here flow new acted = record { led = returns_led p valid goes e here flow new acted; runs = returns_runs p valid goes e here flow new acted runs; based = λ depth claimed based. return_based depth claimed e based flow new acted; falls = return_falls p valid e Return here refl few flow new acted }
  stepped (Print format) here flow new acted = record {
    led = shown_led p valid goes e format here acted.text acted.is acted.all acted.parts acted.enough flow new acted.shown;
    runs = shown_runs p valid goes e format here acted.text acted.is acted.all acted.parts acted.enough flow new acted.shown runs;
    based = λ depth claimed based. shown_based depth claimed e based _ _ flow new acted.shown;
    falls = shown_falls p valid goes e format here acted.text acted.is acted.all acted.parts acted.enough few flow new acted.shown;
  }
  stepped (Perform site) here flow new (is, to) =
      let same : new ≡ e = to ∙ back in
      subst (λ (f : Flow). Stepped p e f new) (sym is) (record { led = (same, here); runs = subst (λ (x : Engine). Runs p x) (sym same) runs; based = λ depth claimed based. subst (λ (x : Engine). IsBased depth claimed x) (sym same) based; falls = tt })
  stepped i here flow new acted = record { led = acts_led p valid goes e i here flow new acted; runs = acts_runs p valid goes e i here flow new acted runs; based = λ depth claimed based. acts_based depth claimed e based (effect p e.depth i) flow new acted; falls = acts_falls p valid e i here refl few flow new acted }

pub leads_on : (p : PlainProgram) (a b c : Engine) → Leads p a b → Leads p b c → Leads p a c
leads_on p a b c h k = λ behind replies. h behind replies ∙ k behind replies
