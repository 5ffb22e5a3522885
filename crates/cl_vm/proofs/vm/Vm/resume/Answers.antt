use Rattle.std.proofs.Common.{◌∙◌, List, [], ◌++◌, sym, subst, refl}
use Rattle.cl_value.specs.Plain.{PlainReply}
use Rattle.cl_code.specs.Plain.{plain_program}
use Rattle.cl_code.specs.Process.{code_demand}
use Rattle.cl_code.specs.Valid.{Valid}
use Rattle.cl_code.specs.declared.parts.ProgramParts.{ProgramParts}
use Rattle.cl_vm.specs.Processes.{Answers, HasHeard}
use Rattle.cl_vm.proofs.Resumed.{answers_again, answers_now, begins_new, heard_again, was_told}
use Rattle.cl_vm.proofs.vm.Vm.resume.Goals as goal

pub hear-requires : goal.hear-requires
hear-requires c =
    let p = plain_program c.args.program.now in
    let valid = subst (λ (q : ProgramParts). Valid (plain_program q)) c.parts-parts.ensures.same c.parts-parts.ensures.valid in
    let (past, stands, fit) = c.requires in
    let was = was_told p past c.args.self.now past.told c.args.reply.now c.in_default.not-Begin stands refl fit in (
      λ more. code_demand p past.steps past.start (was.replies ++ more),
      λ more. c.each_process_is_right.ensures.never_wrong p valid past.steps past.start was.heard.fits (was.replies ++ more),
      was.stood,
      was.told_now,
      was.is_reply,
      was.fit,
    )

pub returns-in-Begin-clause-stands : goal.returns-in-Begin-clause-stands
returns-in-Begin-clause-stands c past stands fit =
    let p = plain_program c.args.program.now in
    let (new, none) = begins_new p past c.args.self.now past.told c.args.reply.now c.in-Begin.is stands fit in
    let heard : HasHeard p past.steps past.start [] c.begin.new.self = record { fits = new.fits; origin = c.begin.ensures.same ∙ new.origin; demand = c.begin.result; stood = c.begin.ensures.stood past.steps past.start new } in
    subst (λ (rs : List PlainReply). HasHeard p past.steps past.start rs c.begin.new.self) (sym none) heard

pub returns-in-Begin-clause-answers : goal.returns-in-Begin-clause-answers
returns-in-Begin-clause-answers c past stands fit =
    let p = plain_program c.args.program.now in
    let (new, none) = begins_new p past c.args.self.now past.told c.args.reply.now c.in-Begin.is stands fit in
    subst (λ (rs : List PlainReply). Answers past.start (code_demand p past.steps past.start rs) c.begin.result c.begin.new.self) (sym none) (answers_now p past [] c.begin.result c.begin.new.self (c.begin.ensures.same ∙ new.origin) (c.begin.ensures.stood past.steps past.start new))

pub returns-in_default : goal.returns-in_default
returns-in_default c = record {
  stands = λ past stands fit.
      let p = plain_program c.args.program.now in
      let was = was_told p past c.args.self.now past.told c.args.reply.now c.in_default.not-Begin stands refl fit in
      heard_again p past past.told c.args.reply.now c.args.self.now was c.hear.result c.hear.new.self c.hear.ensures.same (c.hear.ensures.stood _ was.told_now was.stood was.is_reply was.fit);
  answers = λ past stands fit.
      let p = plain_program c.args.program.now in
      let was = was_told p past c.args.self.now past.told c.args.reply.now c.in_default.not-Begin stands refl fit in
      answers_again p past past.told c.args.reply.now c.args.self.now was c.hear.result c.hear.new.self c.hear.ensures.same (c.hear.ensures.stood _ was.told_now was.stood was.is_reply was.fit);
}
