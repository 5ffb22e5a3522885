use Rattle.cl_instances.proofs.Sets.{requests_are_instances, evals_are_asked_below, live_tuples_begin, processes_begin, histories_are_instances}
use Rattle.cl_instances.proofs.laws.each_request_is_an_instance.Goals as goal

pub returns-clause-requests : goal.returns-clause-requests
returns-clause-requests c = requests_are_instances

pub returns-clause-evals : goal.returns-clause-evals
returns-clause-evals c = evals_are_asked_below

pub returns-clause-live : goal.returns-clause-live
returns-clause-live c = live_tuples_begin

pub returns-clause-starts : goal.returns-clause-starts
returns-clause-starts c = processes_begin

pub returns-clause-histories : goal.returns-clause-histories
returns-clause-histories c = histories_are_instances
