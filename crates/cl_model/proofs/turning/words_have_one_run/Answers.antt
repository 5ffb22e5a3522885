use Rattle.cl_model.proofs.TurnLaws.{over_for_good, one_run_by_words, each_turn_adds}
use Rattle.cl_model.proofs.turning.words_have_one_run.Goals as goal

pub returns-clause-over : goal.returns-clause-over
returns-clause-over c = over_for_good

pub returns-clause-one : goal.returns-clause-one
returns-clause-one c = one_run_by_words

pub returns-clause-adds : goal.returns-clause-adds
returns-clause-adds c = each_turn_adds
