use Rattle.cl_walk.proofs.States.{tick_stops, tick_goes}
use Rattle.cl_walk.proofs.state.State.tick.Goals as goal

pub returns-then-self-eq0 : goal.returns-then-self-eq0
returns-then-self-eq0 c = λ said. tick_stops _ c.args.self.now said c.self.view_is c.if-self-eq0.true

pub returns : goal.returns
returns c = λ said. tick_goes _ c.args.self.now said c.self.view_is c.if-self-eq0.false
