use Rattle.cl_joined.proofs.Joins.{sets_are_disjoint, sets_are_apart}
use Rattle.cl_joined.proofs.laws.sets_are_apart.Goals as goal

pub returns-clause-disjoint : goal.returns-clause-disjoint
returns-clause-disjoint c = sets_are_disjoint

pub returns-clause-apart : goal.returns-clause-apart
returns-clause-apart c = sets_are_apart
