use Rattle.cl_code.proofs.Histories.{acts_are_instances, processes_begin}
use Rattle.cl_code.proofs.laws.each_act_is_an_instance.Goals as goal

pub returns : goal.returns
returns c = record { acts = acts_are_instances; starts = processes_begin }
