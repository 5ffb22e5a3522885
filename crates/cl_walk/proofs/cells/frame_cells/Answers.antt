use Rattle.std.proofs.Common.{◌∙◌, ◌<◌, ◌^◌, ap, sym, length, arith}
use Rattle.cl_meaning.specs.Outer.{size_in}
use Rattle.cl_walk.specs.Numbers.{capped}
use Rattle.cl_walk.specs.Cells.{cells_of_block}
use Rattle.cl_walk.proofs.GroundCells.{capped_sum, capped_small}
use Rattle.cl_walk.proofs.GroundFrames.{cells_in_frame}
use Rattle.cl_walk.proofs.cells.frame_cells.Goals as goal

pub returns : goal.returns
returns c =
    let f = size_in c.args.scope.now in
    let few : length c.as_slice.result.now < 2 ^ 64 = omega arith in
    capped_sum (length c.args.function.now.parameters) (cells_of_block f c.args.function.now.body) _ _ _ (sym (capped_small (length c.as_slice.result.now) few) ∙ ap (λ xs. capped (length xs)) c.as_slice.ensures) c.block_cells.ensures c.saturating_add.ensures
    ∙ sym (ap capped (cells_in_frame f c.args.function.now))
