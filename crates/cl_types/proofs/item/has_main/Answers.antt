use Rattle.std.proofs.Common.{◌∙◌, sym, refl, arith}
use Rattle.cl_types.proofs.Judging.{at_index}
use Rattle.cl_types.proofs.Parts.{main_here, main_later}
use Rattle.cl_types.proofs.item.has_main.Goals as goal

pub loop-part-init : goal.loop-part-init
loop-part-init c = refl

pub returns-then-is_main_item : goal.returns-then-is_main_item
returns-then-is_main_item c =
    main_here c.args.parts.now c.loop-part.part-index c.part-item.result (at_index c.args.parts.now c.loop-part.part-index c.part-item.result (omega arith) c.part-item.is) (sym (sym c.is_main_item.ensures ∙ c.if-is_main_item.true))
    ∙ c.loop-part.invariant

pub loop-part-preserved : goal.loop-part-preserved
loop-part-preserved c =
    main_later c.args.parts.now c.loop-part.part-index c.part-item.result (at_index c.args.parts.now c.loop-part.part-index c.part-item.result (omega arith) c.part-item.is) (sym (sym c.is_main_item.ensures ∙ c.if-is_main_item.false))
    ∙ c.loop-part.invariant
