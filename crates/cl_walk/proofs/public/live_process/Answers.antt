use Rattle.std.proofs.Common.{List, map, ap}
use Rattle.std.specs.Prelude.{Ok, Err}
use Rattle.cl_ground.specs.Room.{Room}
use Rattle.cl_value.specs.LiveViews.{plain_part, plain_live}
use Rattle.cl_value.specs.declared.value.Value.{Value}
use Rattle.cl_meaning.specs.Process as meaning
use Rattle.cl_meaning.specs.Process.{cells_of_globals}
use Rattle.cl_walk.specs.Walks.{point}
use Rattle.cl_walk.proofs.Walking.{leaves}
use Rattle.cl_walk.proofs.Processes.{live_stops, live_goes}
use Rattle.cl_walk.proofs.public.live_process.Goals as goal

pub returns-in_err-claim : goal.returns-in_err-claim
returns-in_err-claim g c =
    let xs = c.args.on.now.program.now.items in
    let depth = c.args.on.now.depth in
    let said = g.W.World.said c.args.world.now in
    let from = point c.args.state.now said in
    let to = point c.claim.new.self said in
    let view : Room Value → List Value = λ values. values.items in
    let stop = c.in_err-claim.field-0.0 in
    leaves view (meaning.live xs depth (plain_live c.args.live.now)) from to c.from_residual.result stop c.from_residual.ensures.1
    (live_stops xs depth view (plain_live c.args.live.now) from to stop (c.in_err-claim.ensures said (cells_of_globals xs) c.cells.ensures))

pub returns-in_err-values : goal.returns-in_err-values
returns-in_err-values g c =
    let xs = c.args.on.now.program.now.items in
    let depth = c.args.on.now.depth in
    let said = g.W.World.said c.args.world.now in
    let from = point c.args.state.now said in
    let between = point c.claim.new.self said in
    let to = point c.parts.new.state (g.W.World.said c.parts.new.world) in
    let view : Room Value → List Value = λ values. values.items in
    let stop = c.in_err-values.field-0.0 in
    leaves view (meaning.live xs depth (plain_live c.args.live.now)) from to c.from_residual-in_err-values.result stop c.from_residual-in_err-values.ensures.1
    (live_goes xs depth view (plain_live c.args.live.now) from c.fields.result.now between (Err stop) to (ap (map plain_part) c.fields.ensures) (c.in_ok-claim.ensures said (cells_of_globals xs) c.cells.ensures) c.in_err-values.ensures)

pub returns : goal.returns
returns g c =
    let xs = c.args.on.now.program.now.items in
    let depth = c.args.on.now.depth in
    let said = g.W.World.said c.args.world.now in
    let from = point c.args.state.now said in
    let between = point c.claim.new.self said in
    let to = point c.parts.new.state (g.W.World.said c.parts.new.world) in
    let view : Room Value → List Value = λ values. values.items in
    rw c.new.ensures (live_goes xs depth view (plain_live c.args.live.now) from c.fields.result.now between (Ok c.in_ok-values.values) to (ap (map plain_part) c.fields.ensures) (c.in_ok-claim.ensures said (cells_of_globals xs) c.cells.ensures) c.in_ok-values.ensures)
