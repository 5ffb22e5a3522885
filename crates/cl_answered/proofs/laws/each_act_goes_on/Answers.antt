use Rattle.cl_answered.proofs.Steps.{machines_begin, replies_fit, machines_go_on, landings_are_last}
use Rattle.cl_answered.proofs.laws.each_act_goes_on.Goals as goal

pub returns-clause-begins : goal.returns-clause-begins
returns-clause-begins c = machines_begin

pub returns-clause-fits : goal.returns-clause-fits
returns-clause-fits c = replies_fit

pub returns-clause-next : goal.returns-clause-next
returns-clause-next c = machines_go_on

pub returns-clause-last : goal.returns-clause-last
returns-clause-last c = landings_are_last
