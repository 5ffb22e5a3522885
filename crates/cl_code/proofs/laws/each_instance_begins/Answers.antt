use Rattle.cl_code.proofs.Beginning.{instances_begin}
use Rattle.cl_code.proofs.laws.each_instance_begins.Goals as goal

pub returns : goal.returns
returns c = record { starts = instances_begin }
