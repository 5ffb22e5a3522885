use Rattle.cl_value.proofs.Lists.{take-slice_get}
use Rattle.cl_value.proofs.tuple.Tuple.refill.Goals as goal

pub loop-i-preserved : goal.loop-i-preserved
loop-i-preserved c =
    let next = take-slice_get c.args.from.now.items c.loop-i.i c.field-in-loop-i.result c.field-in-loop-i.ensures in
    record { fields = cc; room = cc }
