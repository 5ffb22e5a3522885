use Rattle.std.proofs.Common.{None}
use Rattle.cl_vm.specs.Processes.{Past}
use Rattle.bench_machine.proofs.begin_by.Goals as goal

pub resume-requires : goal.resume-requires
resume-requires c =
    let (start, new) = c.requires.new in
    (record { steps = new.steps; start = start; told = None }, new.stands, c.requires.begins)

pub returns : goal.returns
returns c =
    let (start, new) = c.requires.new in
    let past : Past = record { steps = new.steps; start = start; told = None } in
    (start, record { steps = new.steps; replies = _; stands = c.resume.ensures.stands past new.stands c.requires.begins; answers = c.resume.ensures.answers past new.stands c.requires.begins })
