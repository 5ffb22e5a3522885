use Rattle.cl_vm.proofs.PartFilling.{keeps_then, drained_ready, drained_call}
use Rattle.cl_vm.proofs.requests.+empty_fields.Goals as goal

pub returns-in-Ready-clause-kept : goal.returns-in-Ready-clause-kept
returns-in-Ready-clause-kept t c w wide spare =
    let kept = drained_ready w c.in-Ready.field-0 c.remove.result c.args.fields.now c.remove.new.self c.args.spare.now c.remove.ensures.item c.in-Ready.is c.remove.ensures.items c.remove.ensures.spare spare in
    keeps_then w _ _ _ _ _ _ kept (c.empty_fields.ensures.kept w (kept.wide_fields wide) kept.wide_spare)

pub returns-in-Call-clause-kept : goal.returns-in-Call-clause-kept
returns-in-Call-clause-kept t c w wide spare =
    let kept = drained_call w c.in-Call.function c.in-Call.arguments c.in-Call.gives c.remove.result c.args.fields.now c.remove.new.self c.args.spare.now c.push.new.self c.remove.ensures.item c.in-Call.is c.remove.ensures.items c.remove.ensures.spare c.push.ensures.items c.push.ensures.spare wide spare in
    keeps_then w _ _ _ _ _ _ kept (c.empty_fields-in-Call.ensures.kept w (kept.wide_fields wide) kept.wide_spare)
