use Rattle.std.proofs.Common.{subst, refl}
use Rattle.cl_code.specs.Plain.{plain_program}
use Rattle.cl_vm.specs.Runs.{Stepped}
use Rattle.cl_vm.specs.declared.engine.Flow.{Flow}
use Rattle.cl_vm.proofs.Stepping.{leads_on}
use Rattle.cl_vm.proofs.engine.Engine.run_on.Goals as goal

pub steps-init : goal.steps-init
steps-init c = (c.requires, λ behind replies. refl, λ depth claimed based. based)

pub step-requires : goal.step-requires
step-requires c = c.steps.invariant.0

pub steps-smaller : goal.steps-smaller
steps-smaller c = (subst (λ (f : Flow). Stepped (plain_program c.args.program.now) c.steps.self f c.step.new.self) c.in-On.is c.step.ensures).falls

pub steps-preserved : goal.steps-preserved
steps-preserved c =
    let stepped = subst (λ (f : Flow). Stepped (plain_program c.args.program.now) c.steps.self f c.step.new.self) c.in-On.is c.step.ensures in
    (stepped.runs, leads_on (plain_program c.args.program.now) c.args.self c.steps.self c.step.new.self c.steps.invariant.1 stepped.led, λ depth claimed based. stepped.based depth claimed (c.steps.invariant.2 depth claimed based))

pub returns-in_default : goal.returns-in_default
returns-in_default c = record {
  last = c.steps.self;
  leads = c.steps.invariant.1;
  led = c.step.ensures.led;
  runs = c.step.ensures.runs;
  based = λ depth claimed based. c.step.ensures.based depth claimed (c.steps.invariant.2 depth claimed based);
  stops = c.in_default.not-On;
}
