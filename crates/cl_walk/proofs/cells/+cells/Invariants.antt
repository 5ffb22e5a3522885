use Rattle.std.proofs.Common.{map, drop}
use Rattle.cl_meaning.specs.Outer.{size_in, total}
use Rattle.cl_walk.specs.Cells.{cells_of_stmt}
use Rattle.cl_walk.proofs.GroundCells.{Adds}
use Rattle.cl_walk.proofs.cells.+cells.Given as goal

abbrev pub invariant-block_cells-loop-i : goal.invariant-block_cells-loop-i
invariant-block_cells-loop-i l = Adds (total (map (cells_of_stmt (size_in l.scope)) l.statements)) (total (map (cells_of_stmt (size_in l.scope)) (drop l.i l.statements))) l.all
