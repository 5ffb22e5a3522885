use Rattle.std.proofs.Common.{Some}
use Rattle.cl_code.specs.Plain.{plain_program}
use Rattle.cl_vm.specs.Processes.{Past}
use Rattle.test_machine.proofs.Trying.{fits_past}
use Rattle.test_machine.proofs.tests.trial.hear.Goals as goal

pub resume-requires : goal.resume-requires
resume-requires c =
    let (start, after) = c.requires.stands in
    (record { steps = after.steps; start = start; told = Some after.replies }, after.stands, fits_past (plain_program c.args.program.now) start c.args.vm.now c.args.reply.now after c.requires.fits)

pub returns : goal.returns
returns c =
    let (start, after) = c.requires.stands in
    let past : Past = record { steps = after.steps; start = start; told = Some after.replies } in
    let fits = fits_past (plain_program c.args.program.now) start c.args.vm.now c.args.reply.now after c.requires.fits in
    (start, record { steps = after.steps; replies = _; stands = c.resume.ensures.stands past after.stands fits; answers = c.resume.ensures.answers past after.stands fits })
