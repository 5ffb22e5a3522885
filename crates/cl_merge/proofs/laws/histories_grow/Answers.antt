use Rattle.cl_merge.proofs.Growing.{by_ticket_push, sets_grow}
use Rattle.cl_merge.proofs.laws.histories_grow.Goals as goal

pub returns-clause-all : goal.returns-clause-all
returns-clause-all c = by_ticket_push

pub returns-clause-sets : goal.returns-clause-sets
returns-clause-sets c = sets_grow
