use Rattle.cl_merge.proofs.Going.{begins, goes_on}
use Rattle.cl_merge.proofs.Moments.{is_told}
use Rattle.cl_merge.proofs.laws.each_moment_is_legal.Goals as goal

pub returns-clause-first : goal.returns-clause-first
returns-clause-first c = begins

pub returns-clause-next : goal.returns-clause-next
returns-clause-next c = goes_on

pub returns-clause-told : goal.returns-clause-told
returns-clause-told c = is_told
