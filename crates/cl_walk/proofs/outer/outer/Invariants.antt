use Rattle.cl_walk.proofs.GroundOuter.{ItemsLead}
use Rattle.cl_walk.proofs.outer.outer.Given as goal

abbrev pub invariant-loop-item : goal.invariant-loop-item
invariant-loop-item l = ItemsLead l.items l.item-index l.scope
