use Rattle.cl_model.proofs.Following.{one_act_more, each_act_answers, each_act_is_asked_for}
use Rattle.cl_model.proofs.processes.each_act_answers.Goals as goal

pub returns-clause-more : goal.returns-clause-more
returns-clause-more c = one_act_more

pub returns-clause-each : goal.returns-clause-each
returns-clause-each c = each_act_answers

pub returns-clause-asked : goal.returns-clause-asked
returns-clause-asked c = each_act_is_asked_for
