use Rattle.std.proofs.Common.{◌≡◌, ◌∙◌, List, ap, sym, subst}
use Rattle.std.proofs.Math.Path.{fun_ext}
use Rattle.cl_value.specs.Plain.{PlainReply}
use Rattle.cl_value.specs.declared.value.Value.{Value}
use Rattle.cl_code.specs.Plain.{plain_program}
use Rattle.cl_code.specs.Process.{CodeDemand}
use Rattle.cl_vm.specs.Outermost.{between}
use Rattle.cl_vm.specs.Processes.{Stood, came_of, before_field, rest_of}
use Rattle.cl_vm.specs.declared.starting.Progress.{Progress}
use Rattle.cl_vm.proofs.vm.Vm.go_on.Goals as goal

pub begin_field-progress-requires-clause-fine : goal.begin_field-progress-requires-clause-fine
begin_field-progress-requires-clause-fine c replies wrong =
    let p = plain_program c.args.program.now in
    let vm = c.fields.self in
    c.requires.fine replies
    (ap (λ (d : CodeDemand). d.outcome)
    (c.fields.invariant.leads replies
    ∙ ap (λ (x : Progress). came_of p x vm replies) c.in-Finished.is
    ∙ ap (λ (vs : List Value). between p vm.engine.depth (rest_of vm) vs vm.engine replies) (sym c.push.ensures.items))
    ∙ wrong)

pub returns-then-self-len-clause-stood : goal.returns-then-self-len-clause-stood
returns-then-self-len-clause-stood c =
    let p = plain_program c.args.program.now in
    let vm = c.fields.self in
    let same : (replies : List PlainReply) → came_of p c.args.first c.args.self.now replies ≡ before_field p (record vm { values = c.push.new.self }) replies = λ replies.
    c.fields.invariant.leads replies
    ∙ ap (λ (x : Progress). came_of p x vm replies) c.in-Finished.is
    ∙ ap (λ (vs : List Value). between p vm.engine.depth (rest_of vm) vs vm.engine replies) (sym c.push.ensures.items) in
    subst (λ (d : List PlainReply → CodeDemand). Stood p d c.finish.result c.finish.new.self) (sym (fun_ext same)) (c.finish.ensures.stood p)
