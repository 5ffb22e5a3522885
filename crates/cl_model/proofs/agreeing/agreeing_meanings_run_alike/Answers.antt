use Rattle.cl_model.proofs.Agree.{agreeing_run_alike, good_where_agreed}
use Rattle.cl_model.proofs.agreeing.agreeing_meanings_run_alike.Goals as goal

pub returns-clause-alike : goal.returns-clause-alike
returns-clause-alike c = agreeing_run_alike

pub returns-clause-good : goal.returns-clause-good
returns-clause-good c = good_where_agreed
