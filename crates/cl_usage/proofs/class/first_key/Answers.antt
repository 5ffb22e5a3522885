use Rattle.std.proofs.Common.{map, sym, ◌∙◌}
use Rattle.cl_sig.specs.Classes.{members, is_key}
use Rattle.cl_sig.specs.Views.{plain_signature}
use Rattle.cl_usage.proofs.FieldLaws.{first_below-more, first_below-at}
use Rattle.cl_usage.proofs.class.first_key.Goals as goal

pub returns-then-is_key : goal.returns-then-is_key
returns-then-is_key c =
    let all = members (map plain_signature c.args.sites.now) c.args.numbers.now c.args.set in
    sym (first_below-at c.args.count c.loop-field.field (is_key all) c.loop-field-test.true c.loop-field.invariant (sym c.is_key.ensures ∙ c.if-is_key.true))

pub loop-field-preserved : goal.loop-field-preserved
loop-field-preserved c =
    let all = members (map plain_signature c.args.sites.now) c.args.numbers.now c.args.set in
    first_below-more c.loop-field.field (is_key all) c.loop-field.invariant (sym c.is_key.ensures ∙ c.if-is_key.false)
