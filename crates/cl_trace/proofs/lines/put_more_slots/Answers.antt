use Rattle.std.proofs.Common.{◌++◌, ap, arith, refl}
use Rattle.std.specs.Prelude.{codes}
use Rattle.std.proofs.lemmas.List.{drop_all}
use Rattle.cl_text.specs.Tables.{texts_of}
use Rattle.cl_text.proofs.Stages.{at_first, item, at_last, then}
use Rattle.cl_trace.specs.Lines.{slot_text, more_slots_text}
use Rattle.cl_trace.proofs.lines.put_more_slots.Goals as goal

pub loop-slot-init : goal.loop-slot-init
loop-slot-init g c = at_first _ _

pub loop-slot-preserved : goal.loop-slot-preserved
loop-slot-preserved g c =
    let texts = texts_of c.args.texts.now in
    item (more_slots_text texts) (λ s. codes "," ++ slot_text texts s) c.args.slots.now c.loop-slot.slot-index _ _ _ _ (λ s ss. refl) (omega arith) c.loop-slot.invariant (then _ _ _ _ _ c.put.ensures c.put_slot.ensures)

pub returns : goal.returns
returns g c =
    at_last _ _ _ _ (ap (more_slots_text (texts_of c.args.texts.now)) (drop_all c.loop-slot.slot-index c.args.slots.now (omega arith))) c.loop-slot.invariant
