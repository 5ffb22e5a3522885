use Rattle.std.proofs.Common.{◌∙◌, List, Option, ap, sym, subst}
use Rattle.std.specs.Prelude.{ℕ}
use Rattle.std.proofs.Math.Path.{fun_ext}
use Rattle.cl_value.specs.Plain.{PlainReply}
use Rattle.cl_code.specs.Plain.{plain_program}
use Rattle.cl_code.specs.Process.{CodeDemand}
use Rattle.cl_vm.specs.Processes.{EntersAt, Stood}
use Rattle.cl_vm.proofs.vm.Vm.begin_first.Goals as goal

pub begin_main-first-requires : goal.begin_main-first-requires
begin_main-first-requires c =
    let p = plain_program c.args.program.now in
    let (d, claimed) = c.requires in
    let (fields, values, leads) = subst (λ (o : Option ℕ). EntersAt o p d c.args.self.now) c.in-None.is claimed.enters in
    record { held = claimed.held; empty = (fields, values); idle = claimed.idle; fine = λ replies wrong. claimed.fine replies (ap (λ (x : CodeDemand). x.outcome) (leads replies) ∙ wrong) }

pub go_on-requires : goal.go_on-requires
go_on-requires c =
    let p = plain_program c.args.program.now in
    let (d, claimed) = c.requires in
    let (fields, values, leads) = subst (λ (o : Option ℕ). EntersAt o p d c.args.self.now) c.in-None.is claimed.enters in
    record { held = c.begin_main-first.ensures.held; sound = c.begin_main-first.ensures.sound; fine = λ replies wrong. claimed.fine replies (ap (λ (x : CodeDemand). x.outcome) (leads replies ∙ c.begin_main-first.ensures.leads replies) ∙ wrong) }

pub returns-in-None : goal.returns-in-None
returns-in-None c = record {
  stood = λ d claimed.
      let p = plain_program c.args.program.now in
      let (fields, values, leads) = subst (λ (o : Option ℕ). EntersAt o p d c.args.self.now) c.in-None.is claimed.enters in
      subst (λ (x : List PlainReply → CodeDemand). Stood p x c.go_on.result c.go_on.new.self) (sym (fun_ext (λ replies. leads replies ∙ c.begin_main-first.ensures.leads replies))) c.go_on.ensures.stood;
  same = c.go_on.ensures.same ∙ c.begin_main-first.ensures.same;
}

pub begin_field-first-requires : goal.begin_field-first-requires
begin_field-first-requires c =
    let p = plain_program c.args.program.now in
    let (d, claimed) = c.requires in
    let (there, leads) = subst (λ (o : Option ℕ). EntersAt o p d c.args.self.now) c.in-Some.is claimed.enters in
    record { held = claimed.held; there = there; idle = claimed.idle; fine = λ replies wrong. claimed.fine replies (ap (λ (x : CodeDemand). x.outcome) (leads replies) ∙ wrong) }

pub go_on-requires-in-Some : goal.go_on-requires-in-Some
go_on-requires-in-Some c =
    let p = plain_program c.args.program.now in
    let (d, claimed) = c.requires in
    let (there, leads) = subst (λ (o : Option ℕ). EntersAt o p d c.args.self.now) c.in-Some.is claimed.enters in
    record { held = c.begin_field-first.ensures.held; sound = c.begin_field-first.ensures.sound; fine = λ replies wrong. claimed.fine replies (ap (λ (x : CodeDemand). x.outcome) (leads replies ∙ c.begin_field-first.ensures.leads replies) ∙ wrong) }

pub returns-in-Some : goal.returns-in-Some
returns-in-Some c = record {
  stood = λ d claimed.
      let p = plain_program c.args.program.now in
      let (there, leads) = subst (λ (o : Option ℕ). EntersAt o p d c.args.self.now) c.in-Some.is claimed.enters in
      subst (λ (x : List PlainReply → CodeDemand). Stood p x c.go_on-in-Some.result c.go_on-in-Some.new.self) (sym (fun_ext (λ replies. leads replies ∙ c.begin_field-first.ensures.leads replies))) c.go_on-in-Some.ensures.stood;
  same = c.go_on-in-Some.ensures.same ∙ c.begin_field-first.ensures.same.1;
}
