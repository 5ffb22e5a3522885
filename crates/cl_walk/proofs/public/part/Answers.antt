use Rattle.cl_walk.specs.Walks.{point}
use Rattle.cl_walk.proofs.Processes.{part_ready, part_calls, part_unknown}
use Rattle.cl_walk.proofs.public.part.Goals as goal

pub returns-in-Ready : goal.returns-in-Ready
returns-in-Ready g c = part_ready c.args.on.now.program.now.items c.args.on.now.depth c.args.field.now c.in-Ready.value (point c.args.state.now (g.W.World.said c.args.world.now)) c.in-Ready.is

pub returns-in-Some : goal.returns-in-Some
returns-in-Some g c = part_calls c.args.on.now c.args.field.now c.in-Call.function c.in-Call.arguments c.in-Call.gives c.in-Call.is c.in-Some.found.now
    (point c.args.state.now (g.W.World.said c.args.world.now)) c.enter.result (point c.enter.new.state (g.W.World.said c.enter.new.world)) c.in-Some.ensures c.requires
    (rw (c.as_slice.ensures, c.as_slice-in-Some.ensures) at c.enter.ensures)

pub returns-in-None : goal.returns-in-None
returns-in-None g c = part_unknown c.args.on.now c.args.field.now c.in-Call.function c.in-Call.arguments c.in-Call.gives c.in-Call.is (point c.args.state.now (g.W.World.said c.args.world.now)) c.in-None.ensures
