use Rattle.std.proofs.Common.{sym, ap, ◌∙◌, w64, rules}
use Rattle.std.specs.Prelude.{ℤ}
use Rattle.std.proofs.lemmas.Int.{to_z-of_z}
use Rattle.cl_code.specs.Sites.{as_value}
use Rattle.cl_vm.proofs.Filling.{whole, constant_slot, formal_slot, actual_slot}
use Rattle.cl_vm.proofs.asking.+add_slots.Goals as goal

pub returns-in-Constant-clause-filled : goal.returns-in-Constant-clause-filled
returns-in-Constant-clause-filled t c p = constant_slot p _ _ _ _ c.in-Constant.value _ _ _ (whole _ _ _ c.in-len1-up.len_at_least c.in-Constant.is) c.push.ensures.items (c.add_slots.ensures.filled p)

pub returns-in-Formal-clause-filled : goal.returns-in-Formal-clause-filled
returns-in-Formal-clause-filled t c p = formal_slot p _ _ _ _ c.in-Formal.of _ _ _ (whole _ _ _ c.in-len1-up.len_at_least c.in-Formal.is) c.push-in-Formal.ensures.items (c.add_slots-in-Formal.ensures.filled p)

pub returns-in_ok-as_value-in-Actual-clause-filled : goal.returns-in_ok-as_value-in-Actual-clause-filled
returns-in_ok-as_value-in-Actual-clause-filled t c p =
    let z = to_z-of_z w64 c.first_of-n.result.0 (search rules) in
    let value = sym (ap (λ (n : ℤ). as_value c.in-Actual.of n) (z ∙ c.first_of-n.ensures.first)) ∙ sym c.as_value.ensures ∙ c.in_ok-as_value-in-Actual.was in
    actual_slot p _ _ _ _ c.in-Actual.of c.in_ok-as_value-in-Actual.field-0 _ _ _ _ (whole _ _ _ c.in-len1-up.len_at_least c.in-Actual.is) value c.first_of-n.ensures.rest c.push-in-Actual.ensures.items (c.add_slots-in-Actual.ensures.filled p)
