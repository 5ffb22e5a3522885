use Rattle.std.proofs.Common.{List, ap, arith, length}
use Rattle.std.specs.Prelude.{map}
use Rattle.cl_code.specs.Plain.{plain_function}
use Rattle.cl_sig.specs.declared.signature.Mark.{Mark}
use Rattle.cl_sig.specs.declared.signature.Mark.TheVariants as marks
use Rattle.cl_vm.proofs.Filling.{whole}
use Rattle.cl_vm.proofs.SiteNeeds.{parameters_short}
use Rattle.cl_vm.proofs.performing.+count_of.Goals as goal

pub returns-in-Actual-Some-clause-few : goal.returns-in-Actual-Some-clause-few
returns-in-Actual-Some-clause-few t c =
    let own = parameters_short (map plain_function c.args.functions.now) c.in-Actual-Some.function c.parameters_of-own.result.now c.parameters_of-own.ensures c.requires.short in
    let long = ap (λ (ms : List Mark). length ms) (whole _ (marks.Actual c.in-Actual-Some.field-0-0) c.args.marks.now c.in-len1-up.len_at_least c.in-Actual-Some.is-0) in
    omega (arith, own, long, c.count_of-in-Actual-Some.ensures.few)
