use Rattle.std.proofs.Common.{map, arith}
use Rattle.cl_sig.specs.Classes.{members}
use Rattle.cl_sig.specs.Views.{plain_signature}
use Rattle.cl_usage.proofs.FieldLaws.{common_from-more}
use Rattle.cl_usage.proofs.shape.common_fields.Goals as goal

pub loop-field-preserved : goal.loop-field-preserved
loop-field-preserved c =
    let all = members (map plain_signature c.args.sites.now) c.args.numbers.now c.args.set in
    record {
      made = common_from-more c.args.marks.now c.loop-field.field all _ _ _ _ _ c.loop-field-test.true c.loop-field.invariant.made c.push.ensures.items c.common_mark.ensures c.literal_at-literal.ensures;
      room = omega arith;
    }
