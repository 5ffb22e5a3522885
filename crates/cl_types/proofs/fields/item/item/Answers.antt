use Rattle.cl_types.proofs.Stating.{behind_globals}
use Rattle.cl_types.proofs.fields.item.item.Goals as goal

pub returns-in-Variables : goal.returns-in-Variables
returns-in-Variables c = rw (c.in-Variables.is, behind_globals) c.variables.ensures.adds
