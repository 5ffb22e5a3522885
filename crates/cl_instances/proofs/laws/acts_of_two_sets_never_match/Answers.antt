use Rattle.cl_instances.proofs.Sets.{histories_never_match}
use Rattle.cl_instances.proofs.laws.acts_of_two_sets_never_match.Goals as goal

pub returns : goal.returns
returns c = record { histories = histories_never_match }
