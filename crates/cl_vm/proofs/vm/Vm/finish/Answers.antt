use Rattle.std.proofs.Common.{◌∙◌, List, Some, ap, sym}
use Rattle.std.specs.Prelude.{ℕ}
use Rattle.cl_value.specs.Plain.{PlainPart}
use Rattle.cl_value.specs.declared.request.Ask.TheVariants as asks
use Rattle.cl_value.specs.declared.value.Value.{Value}
use Rattle.cl_code.specs.Process.{end_after}
use Rattle.cl_vm.specs.Outermost.{between}
use Rattle.cl_vm.proofs.Calling.{all_between}
use Rattle.cl_vm.proofs.LiveFields.{none_left}
use Rattle.cl_vm.proofs.vm.Vm.finish.Goals as goal

pub returns-clause-stood : goal.returns-clause-stood
returns-clause-stood c p =
    let vm = c.args.self.now in
    let (tuple, stands, items) = c.land.ensures in (
      tuple,
      stands ∙ ap (λ (n : ℕ). Some (record { site = n; ask = asks.Land tuple })) c.landing_site-site.ensures,
      λ replies.
          ap (λ (ps : List PlainPart). between p vm.engine.depth ps vm.values.items vm.engine replies) (none_left vm.next vm.fields.items c.requires.all)
          ∙ all_between p vm.engine.depth vm.values.items vm.engine replies
          ∙ ap (λ (vs : List Value). record { output = vm.engine.output.items; outcome = end_after replies (Some vs) }) (sym (items ∙ c.as_slice.ensures)),
    )
