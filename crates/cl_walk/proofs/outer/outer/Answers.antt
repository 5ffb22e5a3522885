use Rattle.std.proofs.Common.{ap, arith}
use Rattle.cl_meaning.specs.Outer.{outer_from}
use Rattle.cl_walk.proofs.GroundOuter.{items_lead_on, items_lead_to}
use Rattle.cl_walk.proofs.outer.outer.Goals as goal

pub loop-item-init : goal.loop-item-init
loop-item-init c = ap (λ s. outer_from s c.args.items.now) c.new-scope.ensures

pub loop-item-preserved : goal.loop-item-preserved
loop-item-preserved c = items_lead_on c.args.items.now c.loop-item.item-index c.item-item.result c.loop-item.scope _ c.loop-item.invariant (omega arith) c.item-item.is c.in_ok-add_item.ensures

pub returns : goal.returns
returns c = items_lead_to c.args.items.now c.loop-item.item-index c.loop-item.scope c.loop-item.invariant c.loop-item-test.false
