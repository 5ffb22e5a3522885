use Rattle.std.proofs.Common.{◌≡◌, ◌∙◌, Some, ap, sym, subst, arith, length}
use Rattle.std.specs.Prelude.{slice_get}
use Rattle.cl_code.specs.Plain.{plain_program}
use Rattle.cl_code.specs.Valid.{Valid}
use Rattle.cl_code.specs.declared.parts.ProgramParts.{ProgramParts}
use Rattle.cl_vm.specs.Runs.{position_of}
use Rattle.cl_vm.proofs.Needs.{place_within, needs_met, code_is_short}
use Rattle.cl_vm.proofs.engine.Engine.fetch.Goals as goal

pub at-requires : goal.at-requires
at-requires c =
    let valid = subst (λ (q : ProgramParts). Valid (plain_program q)) c.parts-parts.ensures.same c.parts-parts.ensures.valid in
    let same = ap (λ (q : ProgramParts). length q.code.items) c.parts-parts.ensures.same in
    let lt = place_within (plain_program c.args.program.now) valid c.each_height_is_met.ensures.heights c.each_height_is_met.ensures.stacks c.args.self.now.depth (position_of c.args.self.now) c.requires.reached in
    omega (arith, lt, same)

pub returns-clause-needs : goal.returns-clause-needs
returns-clause-needs c =
    let valid = subst (λ (q : ProgramParts). Valid (plain_program q)) c.parts-parts.ensures.same c.parts-parts.ensures.valid in
    let here : slice_get c.args.program.now.code.items c.args.self.now.place ≡ Some c.at.result.now = ap (λ (q : ProgramParts). slice_get q.code.items c.args.self.now.place) (sym c.parts-parts.ensures.same) ∙ c.at.ensures in
    needs_met (plain_program c.args.program.now) valid c.each_height_is_met.ensures.heights c.each_height_is_met.ensures.stacks c.each_instruction_leads_on.ensures.steps c.args.self.now c.requires c.at.result.now here

pub returns-clause-place : goal.returns-clause-place
returns-clause-place c =
    let valid = subst (λ (q : ProgramParts). Valid (plain_program q)) c.parts-parts.ensures.same c.parts-parts.ensures.valid in
    let lt = place_within (plain_program c.args.program.now) valid c.each_height_is_met.ensures.heights c.each_height_is_met.ensures.stacks c.args.self.now.depth (position_of c.args.self.now) c.requires.reached in
    let short = code_is_short (plain_program c.args.program.now) valid in
    omega (arith, lt, short)
