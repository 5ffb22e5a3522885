use Rattle.cl_types.proofs.Parts.{unit_does}
use Rattle.cl_types.proofs.item.walk.Goals as goal

pub returns : goal.returns
returns c = unit_does c.args.parts.now _ _ _ _ _ c.new-journal.ensures c.report_main.ensures c.in_ok-scopes.ensures c.in_ok-items.ensures
