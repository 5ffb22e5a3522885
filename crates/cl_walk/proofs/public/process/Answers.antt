use Rattle.std.proofs.Common.{List}
use Rattle.cl_ground.specs.Room.{Room}
use Rattle.cl_value.specs.declared.value.Value.{Value}
use Rattle.cl_walk.specs.Walks.{point}
use Rattle.cl_walk.proofs.Processes.{process_main, process_live}
use Rattle.cl_walk.proofs.public.process.Goals as goal

pub returns-in-Main : goal.returns-in-Main
returns-in-Main g c =
    let view : Room Value → List Value = λ values. values.items in
    process_main c.args.program.now.items c.args.start.now view (point c.args.state.now (g.W.World.said c.args.world.now)) c.main_process.result (point c.main_process.new.state (g.W.World.said c.main_process.new.world)) c.in-Main.is c.main_process.ensures

pub returns-in-Live : goal.returns-in-Live
returns-in-Live g c =
    let view : Room Value → List Value = λ values. values.items in
    process_live c.args.program.now.items c.args.start.now c.in-Live.site c.in-Live.live c.in-Live.depth view (point c.args.state.now (g.W.World.said c.args.world.now)) c.live_process.result (point c.live_process.new.state (g.W.World.said c.live_process.new.world)) c.in-Live.is c.live_process.ensures
