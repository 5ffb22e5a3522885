use Rattle.cl_joined.proofs.Steps.{begun_may_happen}
use Rattle.cl_joined.proofs.laws.what_is_begun_may_happen.Goals as goal

pub returns : goal.returns
returns c = record { step = begun_may_happen }
