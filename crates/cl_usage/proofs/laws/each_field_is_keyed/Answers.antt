use Rattle.cl_usage.proofs.LawProofs.{field_keyed}
use Rattle.cl_usage.proofs.laws.each_field_is_keyed.Goals as goal

pub returns : goal.returns
returns c = record { keyed = field_keyed }
