use Rattle.std.proofs.Common.{map}
use Rattle.cl_value.specs.LiveViews.{plain_part}
use Rattle.cl_walk.proofs.Fields.{spawn_deep, spawn_pauses, spawn_goes}
use Rattle.cl_walk.proofs.field.spawn.Goals as goal
use Rattle.cl_walk.proofs.field.spawn.Goals.{in-Paused, in_default}

pub returns-then-depth-ge-MOST_DEPTH : goal.returns-then-depth-ge-MOST_DEPTH
returns-then-depth-ge-MOST_DEPTH g c = spawn_deep c.args.depth c.args.site (map plain_part c.args.fields.items) c.args.state.now (g.W.World.said c.args.world.now) c.if-depth-ge-MOST_DEPTH.true

pub returns : goal.returns
returns g c = elim c.match-ask.branch [
  | in-Paused w ↦ rw w.result-is (spawn_pauses c.args.depth c.args.site (map plain_part c.args.fields.items) c.args.state.now (g.W.World.said c.args.world.now) (g.W.World.said c.ask.new.self) c.if-depth-ge-MOST_DEPTH.false (rw c.new.ensures at w.in-Paused.ensures))
  | in_default w ↦ rw (w.result-is, w.truth.ensures) (spawn_goes c.args.depth c.args.site (map plain_part c.args.fields.items) c.args.state.now (g.W.World.said c.args.world.now) (g.W.World.said c.ask.new.self) c.if-depth-ge-MOST_DEPTH.false c.ask.result w.in_default.not-Paused (rw c.new.ensures at c.ask.ensures))
]
