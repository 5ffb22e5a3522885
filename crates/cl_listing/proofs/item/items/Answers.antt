use Rattle.std.proofs.Common.{refl, arith}
use Rattle.cl_listing.specs.Walks.{in_item}
use Rattle.cl_listing.proofs.Sentences.{items_are}
use Rattle.cl_listing.proofs.Walking.{told, leads_on, leads_to}
use Rattle.cl_listing.proofs.item.items.Goals as goal

pub loop-part-init : goal.loop-part-init
loop-part-init c = refl

pub loop-part-preserved : goal.loop-part-preserved
loop-part-preserved c = leads_on in_item c.args.parts.now c.loop-part.part-index c.part-item.result c.args.listing.now c.loop-part.listing _ c.loop-part.invariant (omega arith) c.part-item.is c.in_ok-item.ensures

pub returns : goal.returns
returns c = told _ _ c.args.listing.now _ (items_are c.args.parts.now) (leads_to in_item c.args.parts.now c.loop-part.part-index c.args.listing.now c.loop-part.listing c.loop-part.invariant c.loop-part-test.false)
