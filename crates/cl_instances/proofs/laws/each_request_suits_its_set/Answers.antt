use Rattle.cl_instances.proofs.Sets.{histories_suit}
use Rattle.cl_instances.proofs.laws.each_request_suits_its_set.Goals as goal

pub returns : goal.returns
returns c = record { histories = histories_suit }
