use Rattle.cl_instances.proofs.Sources.{read_demands, read_instances, read_began}
use Rattle.cl_instances.proofs.laws.each_act_is_an_instance.Goals as goal

pub returns-clause-processes : goal.returns-clause-processes
returns-clause-processes c = read_demands

pub returns-clause-acts : goal.returns-clause-acts
returns-clause-acts c = read_instances

pub returns-clause-starts : goal.returns-clause-starts
returns-clause-starts c = read_began
