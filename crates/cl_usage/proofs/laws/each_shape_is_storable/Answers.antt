use Rattle.cl_usage.proofs.StorableProofs.{shapes_are_storable}
use Rattle.cl_usage.proofs.laws.each_shape_is_storable.Goals as goal

pub returns : goal.returns
returns c = record { storable = shapes_are_storable }
