use Rattle.std.proofs.Common.{map, sym, ◌∙◌}
use Rattle.cl_sig.specs.Classes.{members, is_fixed}
use Rattle.cl_sig.specs.Views.{plain_signature}
use Rattle.cl_usage.proofs.FieldLaws.{all_below-more, all_below-no}
use Rattle.cl_usage.proofs.class.all_fixed.Goals as goal

pub returns-then-not-is_fixed : goal.returns-then-not-is_fixed
returns-then-not-is_fixed c =
    let all = members (map plain_signature c.args.sites.now) c.args.numbers.now c.args.set in
    sym (all_below-no c.args.count c.loop-field.field (is_fixed all) c.loop-field-test.true (sym c.is_fixed.ensures ∙ c.if-not-is_fixed.true))

pub loop-field-preserved : goal.loop-field-preserved
loop-field-preserved c =
    let all = members (map plain_signature c.args.sites.now) c.args.numbers.now c.args.set in
    all_below-more c.loop-field.field (is_fixed all) c.loop-field.invariant (sym c.is_fixed.ensures ∙ c.if-not-is_fixed.false)
