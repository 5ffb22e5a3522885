use Rattle.cl_instances.proofs.Sources.{read_settled, read_apart}
use Rattle.cl_instances.proofs.laws.each_source_is_in_order.Goals as goal

pub returns-clause-settled : goal.returns-clause-settled
returns-clause-settled c = read_settled

pub returns-clause-apart : goal.returns-clause-apart
returns-clause-apart c = read_apart
