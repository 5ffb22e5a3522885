use Rattle.std.proofs.Common.{sym, ap, ◌∙◌, w64, rules, refl}
use Rattle.std.specs.Prelude.{ℤ, pos}
use Rattle.std.proofs.lemmas.Int.{to_z-of_z}
use Rattle.std.proofs.Math.ListN.{get_or}
use Rattle.cl_value.specs.declared.value.FieldType.TheVariants as types
use Rattle.cl_code.specs.Sites.{as_value}
use Rattle.cl_vm.proofs.Filling.{whole, number_read}
use Rattle.cl_vm.proofs.asking.+add_numbers.Goals as goal

pub returns-in_ok-as_value-in-len1-up-numbers-clause-filled : goal.returns-in_ok-as_value-in-len1-up-numbers-clause-filled
returns-in_ok-as_value-in-len1-up-numbers-clause-filled t c =
    let z = to_z-of_z w64 (get_or c.args.numbers.now 0 (pos 0)) (search rules) in
    let value = sym (ap (λ (n : ℤ). as_value (get_or c.args.types.now 0 types.Int) n) z) ∙ sym c.as_value.ensures ∙ c.in_ok-as_value-in-len1-up-numbers.was in
    number_read _ _ _ _ _ _ c.in_ok-as_value-in-len1-up-numbers.field-0 _ _ _ _ (whole types.Int _ _ c.in-len1-up.len_at_least refl) (whole (pos 0) _ _ c.in-len1-up-numbers.len_at_least refl) value c.push.ensures.items c.add_numbers.ensures.filled
