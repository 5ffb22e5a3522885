use Rattle.cl_walk.proofs.States.{release_goes}
use Rattle.cl_walk.proofs.state.State.release.Goals as goal

pub returns : goal.returns
returns c = λ said n number. release_goes _ c.args.self.now said c.args.cells c.saturating_sub-self-inside.result n c.self.view_is c.self.invariant.0 number c.saturating_sub-self-inside.ensures
