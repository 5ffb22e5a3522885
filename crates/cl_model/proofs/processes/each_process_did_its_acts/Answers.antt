use Rattle.cl_model.proofs.Told.{each_did, told_of_own, main_did}
use Rattle.cl_model.proofs.processes.each_process_did_its_acts.Goals as goal

pub returns-clause-each : goal.returns-clause-each
returns-clause-each c = each_did

pub returns-clause-told : goal.returns-clause-told
returns-clause-told c = told_of_own

pub returns-clause-main : goal.returns-clause-main
returns-clause-main c = main_did
