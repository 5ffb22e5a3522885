use Rattle.std.proofs.Common.{◌≡◌, ℕ, ◌+◌, suc, arith, subst}
use Rattle.cl_code.specs.Plain.{plain_program}
use Rattle.cl_vm.specs.Engine.{Acted}
use Rattle.cl_vm.proofs.Stepping.{stepped}
use Rattle.cl_vm.proofs.engine.Engine.step.Goals as goal

pub returns : goal.returns
returns c =
    let e = c.args.self.now in
    let p = plain_program c.args.program.now in
    let next : e.place + 1 ≡ suc e.place = omega arith in
    stepped p c.fetch-i.ensures.valid c.each_height_is_met.ensures.heights c.each_height_is_met.ensures.stacks c.each_instruction_leads_on.ensures.steps e c.requires c.fetch-i.result.now c.fetch-i.ensures.here c.perform.result c.perform.new.self
    (subst (λ (n : ℕ). Acted p c.fetch-i.result.now (record e { place = n }) c.perform.result c.perform.new.self) next c.perform.ensures)
