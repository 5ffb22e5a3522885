use Rattle.std.proofs.Common.{suc, subst}
use Rattle.cl_value.specs.LiveViews.{plain_live}
use Rattle.cl_value.specs.Views.{plain_request}
use Rattle.cl_model.specs.Machine.{depth_of}
use Rattle.cl_code.specs.Plain.{plain_program}
use Rattle.cl_code.specs.Valid.{Valid}
use Rattle.cl_code.specs.declared.parts.ProgramParts.{ProgramParts}
use Rattle.test_machine.proofs.TestRows.{at_depth}
use Rattle.test_machine.proofs.Trying.{asks_that}
use Rattle.test_machine.proofs.tests.trial.may_begin.Goals as goal

pub returns : goal.returns
returns c =
    let p = plain_program c.args.program.now in
    let request = c.args.request.now in
    let live = plain_live c.args.live.now in
    let valid = subst (λ (q : ProgramParts). Valid (plain_program q)) c.parts-parts.ensures.same c.parts-parts.ensures.valid in
    let (start, after) = c.requires.stands in
    let asks = asks_that start _ c.args.vm.now request after.answers c.requires.request in
    let right = c.each_process_is_right.ensures.requests p valid after.steps start after.stands.fits after.replies (plain_request request) asks in
    at_depth p request.site live (suc (depth_of start)) c.args.depth c.requires.some c.requires.few (right.start live c.requires.asks)
