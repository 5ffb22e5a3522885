use Rattle.std.proofs.Common.{arith}
use Rattle.cl_meaning.specs.Outer.{global_cells, size_in}
use Rattle.cl_walk.proofs.GroundCells.{adds_begin, items_on, items_end}
use Rattle.cl_walk.proofs.cells.global_cells.Goals as goal

pub loop-item-init : goal.loop-item-init
loop-item-init c = adds_begin (global_cells (size_in c.args.scope.now) c.args.items.now)

pub loop-item-preserved : goal.loop-item-preserved
loop-item-preserved c = items_on (size_in c.args.scope.now) c.args.items.now c.loop-item.item-index c.item-item.result c.loop-item.all c.item_cells.result _ c.loop-item.invariant (omega arith) c.item-item.is c.item_cells.ensures c.saturating_add-all.ensures

pub returns : goal.returns
returns c = items_end (size_in c.args.scope.now) c.args.items.now c.loop-item.item-index c.loop-item.all c.loop-item.invariant c.loop-item-test.false
