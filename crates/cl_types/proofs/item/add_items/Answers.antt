use Rattle.std.proofs.Common.{◌∙◌, refl, arith}
use Rattle.cl_types.proofs.Judging.{at_index}
use Rattle.cl_types.proofs.Parts.{added_turn, added_end}
use Rattle.cl_types.proofs.item.add_items.Goals as goal

pub loop-part-init : goal.loop-part-init
loop-part-init c = refl

pub loop-part-preserved : goal.loop-part-preserved
loop-part-preserved c =
    added_turn c.args.parts.now c.loop-part.part-index c.part-item.result c.loop-part.scopes c.add_item.new.scopes (at_index c.args.parts.now c.loop-part.part-index c.part-item.result (omega arith) c.part-item.is) c.in_ok-add_item.ensures
    ∙ c.loop-part.invariant

pub returns : goal.returns
returns c = added_end c.args.parts.now c.loop-part.part-index c.loop-part.scopes c.loop-part-test.false ∙ c.loop-part.invariant
