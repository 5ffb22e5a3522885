use Rattle.std.proofs.Common.{ap, sym, ◌∙◌, List}
use Rattle.std.specs.Prelude.{ℤ}
use Rattle.cl_code.specs.Sites.{formals_told, answer_told}
use Rattle.cl_vm.specs.Memory.{Memory}
use Rattle.cl_vm.specs.Hears.{with_all}
use Rattle.cl_vm.proofs.Replies.{pushed_on}
use Rattle.cl_vm.proofs.hearing.push_told.Goals as goal

pub returns : goal.returns
returns c told is =
    let m = c.args.memory.now in
    c.push_answer.ensures told is
    ∙ ap (λ (x : Memory). with_all (answer_told c.args.kind told) x) (c.push_formals.ensures.told told is)
    ∙ ap (λ (st : List ℤ). record m { stack = st }) (sym (pushed_on (formals_told c.args.marks.now told) (answer_told c.args.kind told) m.stack))
