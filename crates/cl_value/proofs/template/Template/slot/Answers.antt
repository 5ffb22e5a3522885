use Rattle.cl_value.proofs.Lists.{list_all-slice_get}
use Rattle.cl_value.specs.Matching.{may_stand}
use Rattle.cl_value.proofs.template.Template.slot.Goals as goal

pub returns-clause-stands : goal.returns-clause-stands
returns-clause-stands c = list_all-slice_get may_stand _ c.args.i c.at.result.now c.self.invariant.2 c.at.ensures
