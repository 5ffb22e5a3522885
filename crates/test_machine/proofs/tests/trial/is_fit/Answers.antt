use Rattle.std.proofs.Common.{◌∙◌, ap, sym}
use Rattle.cl_value.specs.Plain.{Got}
use Rattle.cl_vm.specs.Hears.{plain_reply}
use Rattle.test_machine.proofs.tests.trial.is_fit.Goals as goal

pub returns-in-Some : goal.returns-in-Some
returns-in-Some c h = (Got c.in-Got.tuple.now.items, ap plain_reply c.in-Got.is, c.in-Some.ensures c.in-Got.tuple.now.items ∙ sym c.is_match.ensures ∙ h)
