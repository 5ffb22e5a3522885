use Rattle.cl_code.proofs.Processes.{never_wrong, asks_right, lands_right}
use Rattle.cl_code.proofs.laws.each_process_is_right.Goals as goal

pub returns-clause-never_wrong : goal.returns-clause-never_wrong
returns-clause-never_wrong c = never_wrong

pub returns-clause-requests : goal.returns-clause-requests
returns-clause-requests c = asks_right

pub returns-clause-landings : goal.returns-clause-landings
returns-clause-landings c = lands_right
