use Rattle.std.proofs.Common.{◌∙◌, List, Some, ap, sym, subst}
use Rattle.std.specs.Prelude.{ℕ, map}
use Rattle.cl_model.specs.Doing.{Stops}
use Rattle.cl_model.specs.Numbers.{number}
use Rattle.cl_value.specs.declared.process.Trap.{Trap}
use Rattle.cl_code.specs.Plain.{plain_program}
use Rattle.cl_code.specs.Process.{CodeDemand, code_demand_of}
use Rattle.cl_vm.specs.Engine.{Ticks}
use Rattle.cl_vm.specs.Outermost.{IsFine, came, claimed_at, entering}
use Rattle.cl_vm.specs.declared.engine.Engine.{Engine}
use Rattle.cl_vm.specs.declared.engine.Flow.{Flow}
use Rattle.cl_vm.proofs.Calling.{call_enters, call_stops}
use Rattle.cl_vm.proofs.engine.Engine.begin_call.Goals as goal

pub begin_function-requires-clause-fine : goal.begin_function-requires-clause-fine
begin_function-requires-clause-fine c =
    let p = plain_program c.args.program.now in
    let e = c.args.self.now in
    let (rest, done, fine) = c.requires.fine in
    let (some, to) = subst (λ (x : Flow). Ticks e x c.tick.new.self) c.in-On.is c.tick.ensures in
    subst (λ (x : Engine). (rest : List _) × (done : List _) × IsFine (entering p c.args.k (map number c.args.arguments.now) (Some c.args.gives) rest done x)) (sym to)
    (rest, done, λ replies wrong. fine replies (ap (λ (d : CodeDemand). d.outcome) (call_enters p e.depth rest done e replies c.args.k c.args.arguments.now c.args.gives some) ∙ wrong))

pub returns-in-On-clause-leads : goal.returns-in-On-clause-leads
returns-in-On-clause-leads c rest done replies =
    let p = plain_program c.args.program.now in
    let e = c.args.self.now in
    let (some, to) = subst (λ (x : Flow). Ticks e x c.tick.new.self) c.in-On.is c.tick.ensures in
    call_enters p e.depth rest done e replies c.args.k c.args.arguments.now c.args.gives some
    ∙ ap (λ (x : Engine). entering p c.args.k (map number c.args.arguments.now) (Some c.args.gives) rest done x replies) (sym to)
    ∙ c.begin_function.ensures.leads rest done replies
    ∙ ap (λ (d : ℕ). came p d (claimed_at p c.args.k) (Some c.args.gives) rest done c.begin_function.result c.begin_function.new.self replies) (ap (λ (x : Engine). x.depth) to)

pub returns-in-Stop-clause-leads : goal.returns-in-Stop-clause-leads
returns-in-Stop-clause-leads c rest done replies =
    let p = plain_program c.args.program.now in
    let e = c.args.self.now in
    let (none, trap_is, out) = subst (λ (x : Flow). Ticks e x c.tick.new.self) c.in-Stop.is c.tick.ensures in
    call_stops p e.depth rest done e replies c.args.k c.args.arguments.now c.args.gives none
    ∙ ap (λ (t : Trap). code_demand_of (Stops t) e.output.items replies) (sym trap_is)
    ∙ ap (λ (o : List ℕ). code_demand_of (Stops c.in-Stop.trap) o replies) (sym out)
