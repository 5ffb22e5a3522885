use Rattle.cl_value.specs.Views.{plain_ask}
use Rattle.cl_walk.specs.Views.{aims_of}
use Rattle.cl_walk.specs.Walks.{point, same}
use Rattle.cl_walk.specs.declared.stop.Stop.TheVariants.{NoMemory}
use Rattle.cl_walk.specs.Rules.{requests}
use Rattle.cl_walk.proofs.Walking.{leaves}
use Rattle.cl_walk.proofs.Fields.{request_fills, request_stops, request_done, request_misses, request_pauses}
use Rattle.cl_walk.proofs.field.request.Goals as goal

pub returns-in_err-ask : goal.returns-in_err-ask
returns-in_err-ask g c = leaves same (requests c.args.site c.args.verb (aims_of c.args.aims.now)) (point c.args.state.now (g.W.World.said c.args.world.now)) (point c.args.state.now (g.W.World.said c.args.world.now)) c.from_residual.result NoMemory (rw c.in_err-ask.ensures at c.from_residual.ensures.1) tt

pub returns-in_err-fill-in-Got : goal.returns-in_err-fill-in-Got
returns-in_err-fill-in-Got g c = leaves same (requests c.args.site c.args.verb (aims_of c.args.aims.now)) (point c.args.state.now (g.W.World.said c.args.world.now)) (point c.fill.new.state (g.W.World.said c.ask.new.self)) c.from_residual-in_err-fill-in-Got.result c.in_err-fill-in-Got.field-0.0 c.from_residual-in_err-fill-in-Got.ensures.1
    (request_stops c.args.site c.args.verb (aims_of c.args.aims.now) (plain_ask c.in_ok-ask.ask) c.in_ok-ask.ensures c.args.state.now (g.W.World.said c.args.world.now) (g.W.World.said c.ask.new.self) c.in-Got.tuple.items c.fields.result.now c.fill.new.state c.in_err-fill-in-Got.field-0.0 c.fields.ensures c.in-Got.ensures (c.in_err-fill-in-Got.ensures (g.W.World.said c.ask.new.self)))

pub returns-in_ok-fill-in-Got : goal.returns-in_ok-fill-in-Got
returns-in_ok-fill-in-Got g c = rw c.truth.ensures
    (request_fills c.args.site c.args.verb (aims_of c.args.aims.now) (plain_ask c.in_ok-ask.ask) c.in_ok-ask.ensures c.args.state.now (g.W.World.said c.args.world.now) (g.W.World.said c.ask.new.self) c.in-Got.tuple.items c.fields.result.now c.fill.new.state c.fields.ensures c.in-Got.ensures (c.in_ok-fill-in-Got.ensures (g.W.World.said c.ask.new.self)))

pub returns-in-Done : goal.returns-in-Done
returns-in-Done g c = rw c.truth-in-Done.ensures (request_done c.args.site c.args.verb (aims_of c.args.aims.now) (plain_ask c.in_ok-ask.ask) c.in_ok-ask.ensures c.args.state.now (g.W.World.said c.args.world.now) (g.W.World.said c.ask.new.self) c.in-Done.ensures)

pub returns-in-Missed : goal.returns-in-Missed
returns-in-Missed g c = rw c.truth-in-Missed.ensures (request_misses c.args.site c.args.verb (aims_of c.args.aims.now) (plain_ask c.in_ok-ask.ask) c.in_ok-ask.ensures c.args.state.now (g.W.World.said c.args.world.now) (g.W.World.said c.ask.new.self) c.in-Missed.ensures)

pub returns-in-Paused : goal.returns-in-Paused
returns-in-Paused g c = request_pauses c.args.site c.args.verb (aims_of c.args.aims.now) (plain_ask c.in_ok-ask.ask) c.in_ok-ask.ensures c.args.state.now (g.W.World.said c.args.world.now) (g.W.World.said c.ask.new.self) c.in-Paused.ensures
