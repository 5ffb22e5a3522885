use Rattle.cl_model.proofs.Answering.{answers_agree, waiting_agrees}
use Rattle.cl_model.proofs.counting.each_list_answers_as_its_bag.Goals as goal

pub returns-clause-answers : goal.returns-clause-answers
returns-clause-answers c = answers_agree

pub returns-clause-waits : goal.returns-clause-waits
returns-clause-waits c = waiting_agrees
