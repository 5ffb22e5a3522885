use Rattle.cl_usage.proofs.SuitProofs.{request_suits, instances_suit}
use Rattle.cl_usage.proofs.laws.each_request_suits.Goals as goal

pub returns : goal.returns
returns c = record { suits = request_suits; instances = instances_suit }
