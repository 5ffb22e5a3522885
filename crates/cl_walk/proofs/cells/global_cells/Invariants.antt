use Rattle.std.proofs.Common.{drop}
use Rattle.cl_meaning.specs.Outer.{global_cells, size_in}
use Rattle.cl_walk.proofs.GroundCells.{Adds}
use Rattle.cl_walk.proofs.cells.global_cells.Given as goal

abbrev pub invariant-loop-item : goal.invariant-loop-item
invariant-loop-item l = Adds (global_cells (size_in l.scope) l.items) (global_cells (size_in l.scope) (drop l.item-index l.items)) l.all
