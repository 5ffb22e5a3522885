use Rattle.std.proofs.Common.{◌∙◌, ◌++◌, ap, arith}
use Rattle.cl_types.specs.Items.{parameter_types}
use Rattle.cl_types.proofs.Judging.{at_index}
use Rattle.cl_types.proofs.Listing.{type_turn, types_end}
use Rattle.cl_types.proofs.item.parameter_types.Goals as goal

pub loop-part-init : goal.loop-part-init
loop-part-init c = ap (λ ts. ts ++ parameter_types c.args.parts.now) c.new-types.ensures

pub loop-part-preserved : goal.loop-part-preserved
loop-part-preserved c =
    type_turn c.args.parts.now c.loop-part.part-index c.part-item.result c.loop-part.types _ (at_index c.args.parts.now c.loop-part.part-index c.part-item.result (omega arith) c.part-item.is) c.in_ok-push.ensures.ok
    ∙ c.loop-part.invariant

pub returns : goal.returns
returns c = types_end c.args.parts.now c.loop-part.part-index c.loop-part.types (omega arith) ∙ c.loop-part.invariant
