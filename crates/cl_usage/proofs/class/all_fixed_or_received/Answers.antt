use Rattle.std.proofs.Common.{map, sym, ◌∙◌}
use Rattle.std.specs.Prelude.{◌||◌}
use Rattle.cl_sig.specs.Classes.{members, is_fixed, is_received}
use Rattle.cl_sig.specs.Views.{plain_signature}
use Rattle.cl_usage.proofs.FieldLaws.{all_below-more, all_below-no}
use Rattle.cl_usage.proofs.class.all_fixed_or_received.Goals as goal

pub returns-then-not-is_free : goal.returns-then-not-is_free
returns-then-not-is_free c =
    let all = members (map plain_signature c.args.sites.now) c.args.numbers.now c.args.set in
    sym (all_below-no c.args.count c.loop-field.field (λ f. is_fixed all f || is_received all f) c.loop-field-test.true (sym c.is_free.ensures ∙ c.if-not-is_free.true))

pub loop-field-preserved : goal.loop-field-preserved
loop-field-preserved c =
    let all = members (map plain_signature c.args.sites.now) c.args.numbers.now c.args.set in
    all_below-more c.loop-field.field (λ f. is_fixed all f || is_received all f) c.loop-field.invariant (sym c.is_free.ensures ∙ c.if-not-is_free.false)
