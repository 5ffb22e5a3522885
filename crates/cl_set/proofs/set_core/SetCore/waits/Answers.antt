use Rattle.cl_value.specs.Views.{plain_ask}
use Rattle.cl_set.proofs.Steps.{cost-stands}
use Rattle.cl_set.proofs.set_core.SetCore.waits.Goals as goal

pub returns-clause-cost : goal.returns-clause-cost
returns-clause-cost g c =
    let i = c.self.inside in
    cost-stands i.shape i.limit i.store i.acts i.begun i.buffer c.args.self.now (plain_ask c.args.request.now.ask) c.args.steps.now c.waits_in.new.steps c.self.invariant c.self.view_is c.requires.idle c.waits_in.ensures.searches c.waits_in.ensures.others
