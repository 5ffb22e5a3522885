use Rattle.cl_code.proofs.Storable.{programs_are_storable}
use Rattle.cl_code.proofs.laws.each_set_is_storable.Goals as goal

pub returns : goal.returns
returns c = record { storable = programs_are_storable }
