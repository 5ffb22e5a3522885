use Rattle.std.proofs.Common.{◌≡◌, ◌∷◌, ◌∙◌, List, ap, sym, subst}
use Rattle.std.proofs.Math.Path.{fun_ext}
use Rattle.cl_value.specs.Plain.{PlainReply}
use Rattle.cl_code.specs.Plain.{plain_program}
use Rattle.cl_code.specs.Process.{CodeDemand}
use Rattle.cl_vm.specs.Processes.{Stood, came_of, rest_of}
use Rattle.cl_vm.proofs.Begun.{fits_there, heard_based, heard_leads, sound_depth}
use Rattle.cl_vm.proofs.LiveFields.{came_depth}
use Rattle.cl_vm.proofs.vm.Vm.hear.Goals as goal

pub run_function-first-requires : goal.run_function-first-requires
run_function-first-requires c =
    let (d, fine, stood, told, is, fit) = c.requires in
    c.hear.ensures.runs told is (fits_there (plain_program c.args.program.now) d c.args.self.now stood told fit)

pub go_on-requires-clause-sound : goal.go_on-requires-clause-sound
go_on-requires-clause-sound c =
    let p = plain_program c.args.program.now in
    let vm = c.args.self.now in
    let (d, fine, stood, told, is, fit) = c.requires in
    sound_depth p vm.engine.depth vm.claimed c.run_function-first.result c.run_function-first.new.self (c.run_function-first.ensures.sound vm.engine.depth (heard_based p d vm stood told fit c.hear.new.self (c.hear.ensures.stands told is)))

pub go_on-requires-clause-fine : goal.go_on-requires-clause-fine
go_on-requires-clause-fine c replies wrong =
    let p = plain_program c.args.program.now in
    let vm = c.args.self.now in
    let e = c.run_function-first.new.self in
    let (d, fine, stood, told, is, fit) = c.requires in
    let heard = c.hear.ensures.stands told is in
    fine (told ∷ replies)
    (ap (λ (x : CodeDemand). x.outcome)
    (heard_leads p d vm stood told fit c.hear.new.self heard replies
    ∙ c.run_function-first.ensures.leads vm.engine.depth (rest_of vm) vm.values.items replies
    ∙ came_depth p vm.engine.depth vm.claimed vm.gives (rest_of vm) vm.values.items c.run_function-first.result e replies (c.run_function-first.ensures.sound vm.engine.depth (heard_based p d vm stood told fit c.hear.new.self heard)))
    ∙ wrong)

pub returns-clause-stood : goal.returns-clause-stood
returns-clause-stood c d told stood is fit =
    let p = plain_program c.args.program.now in
    let vm = c.args.self.now in
    let e = c.run_function-first.new.self in
    let heard = c.hear.ensures.stands told is in
    let same : (replies : List PlainReply) → d (told ∷ replies) ≡ came_of p c.run_function-first.result (record vm { engine = e }) replies = λ replies.
    heard_leads p d vm stood told fit c.hear.new.self heard replies
    ∙ c.run_function-first.ensures.leads vm.engine.depth (rest_of vm) vm.values.items replies
    ∙ came_depth p vm.engine.depth vm.claimed vm.gives (rest_of vm) vm.values.items c.run_function-first.result e replies (c.run_function-first.ensures.sound vm.engine.depth (heard_based p d vm stood told fit c.hear.new.self heard)) in
    subst (λ (x : List PlainReply → CodeDemand). Stood p x c.go_on.result c.go_on.new.self) (sym (fun_ext same)) c.go_on.ensures.stood
