use Rattle.cl_walk.proofs.States.{claim_stops, claim_goes}
use Rattle.cl_walk.proofs.state.State.claim.Goals as goal

pub returns-then-all : goal.returns-then-all
returns-then-all c = λ said n number. claim_stops _ c.args.self.now said c.args.cells c.saturating_add-all.result n c.self.view_is c.self.invariant.0 number c.saturating_add-all.ensures c.if-all.true

pub returns : goal.returns
returns c = λ said n number. claim_goes _ c.args.self.now said c.args.cells c.saturating_add-all.result n c.self.view_is c.self.invariant.0 number c.saturating_add-all.ensures c.if-all.false
