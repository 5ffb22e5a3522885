use Rattle.cl_listing.specs.Walks.{in_stmt}
use Rattle.cl_listing.proofs.Walking.{Leads}
use Rattle.cl_listing.proofs.statement.+walking.Given as goal

abbrev pub invariant-block-loop-i : goal.invariant-block-loop-i
invariant-block-loop-i l = Leads in_stmt l.parts l.i l.initial.listing l.listing
