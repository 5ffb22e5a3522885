use Rattle.std.proofs.Common.{drop}
use Rattle.cl_meaning.specs.Outer.{declarator_cells, size_in}
use Rattle.cl_walk.proofs.GroundCells.{Adds}
use Rattle.cl_walk.proofs.cells.declarator_cells.Given as goal

abbrev pub invariant-loop-declarator : goal.invariant-loop-declarator
invariant-loop-declarator l = Adds (declarator_cells (size_in l.scope) l.declarators) (declarator_cells (size_in l.scope) (drop l.declarator-index l.declarators)) l.all
