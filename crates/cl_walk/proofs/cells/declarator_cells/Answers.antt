use Rattle.std.proofs.Common.{arith}
use Rattle.cl_meaning.specs.Outer.{declarator_cells, size_in}
use Rattle.cl_walk.proofs.GroundCells.{adds_begin, declarators_on, declarators_end}
use Rattle.cl_walk.proofs.cells.declarator_cells.Goals as goal

pub loop-declarator-init : goal.loop-declarator-init
loop-declarator-init c = adds_begin (declarator_cells (size_in c.args.scope.now) c.args.declarators.now)

pub loop-declarator-preserved : goal.loop-declarator-preserved
loop-declarator-preserved c = declarators_on (size_in c.args.scope.now) c.args.declarators.now c.loop-declarator.declarator-index c.declarator-item.result c.loop-declarator.all c.form_cells.result _ c.loop-declarator.invariant (omega arith) c.declarator-item.is c.form_cells.ensures c.saturating_add-all.ensures

pub returns : goal.returns
returns c = declarators_end (size_in c.args.scope.now) c.args.declarators.now c.loop-declarator.declarator-index c.loop-declarator.all c.loop-declarator.invariant c.loop-declarator-test.false
