use Rattle.std.proofs.Common.{◌∙◌, List, ap, sym, subst}
use Rattle.cl_value.specs.Plain.{PlainReply}
use Rattle.cl_value.specs.declared.process.Trap.{Trap}
use Rattle.cl_model.specs.Doing.{Stops}
use Rattle.cl_code.specs.Plain.{plain_program}
use Rattle.cl_code.specs.Process.{CodeDemand, code_demand, code_demand_of}
use Rattle.cl_code.specs.Valid.{Valid}
use Rattle.cl_code.specs.declared.parts.ProgramParts.{ProgramParts}
use Rattle.cl_vm.specs.Outermost.{ClaimsGlobals}
use Rattle.cl_vm.specs.Processes.{HasClaimed}
use Rattle.cl_vm.specs.declared.engine.Engine.{Engine}
use Rattle.cl_vm.specs.declared.engine.Flow.{Flow}
use Rattle.cl_vm.proofs.Begun.{new_claimed, new_stops}
use Rattle.cl_vm.proofs.vm.Vm.begin.Goals as goal

pub begin_first-requires : goal.begin_first-requires
begin_first-requires c =
    let p = plain_program c.args.program.now in
    let vm = c.args.self.now in
    let valid = subst (λ (q : ProgramParts). Valid (plain_program q)) c.parts-parts.ensures.same c.parts-parts.ensures.valid in
    let (steps, start, new) = c.requires in
    let (few, to) = subst (λ (x : Flow). ClaimsGlobals p vm.engine x c.claim_globals.new.self) c.in-On.is c.claim_globals.ensures in
    subst (λ (x : Engine). (d : List PlainReply → CodeDemand) × HasClaimed p d (record vm { engine = x })) (sym to) (code_demand p steps start, new_claimed p steps valid c.each_process_is_right.ensures.never_wrong start vm new few)

pub returns-in-On-clause-stood : goal.returns-in-On-clause-stood
returns-in-On-clause-stood c steps start new =
    let p = plain_program c.args.program.now in
    let vm = c.args.self.now in
    let valid = subst (λ (q : ProgramParts). Valid (plain_program q)) c.parts-parts.ensures.same c.parts-parts.ensures.valid in
    let (few, to) = subst (λ (x : Flow). ClaimsGlobals p vm.engine x c.claim_globals.new.self) c.in-On.is c.claim_globals.ensures in
    c.begin_first.ensures.stood (code_demand p steps start) (subst (λ (x : Engine). HasClaimed p (code_demand p steps start) (record vm { engine = x })) (sym to) (new_claimed p steps valid c.each_process_is_right.ensures.never_wrong start vm new few))

pub returns-in-Stop-clause-stood : goal.returns-in-Stop-clause-stood
returns-in-Stop-clause-stood c steps start new replies =
    let p = plain_program c.args.program.now in
    let vm = c.args.self.now in
    let (many, trap_is, to) = subst (λ (x : Flow). ClaimsGlobals p vm.engine x c.claim_globals.new.self) c.in-Stop.is c.claim_globals.ensures in
    new_stops p steps start vm new many replies
    ∙ ap (λ (t : Trap). code_demand_of (Stops t) vm.engine.output.items replies) (sym trap_is)
    ∙ ap (λ (x : Engine). code_demand_of (Stops c.in-Stop.trap) x.output.items replies) (sym to)
