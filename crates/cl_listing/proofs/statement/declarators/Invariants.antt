use Rattle.cl_listing.specs.Walks.{in_declarator}
use Rattle.cl_listing.proofs.Walking.{Leads}
use Rattle.cl_listing.proofs.statement.declarators.Given as goal

abbrev pub invariant-loop-part : goal.invariant-loop-part
invariant-loop-part l = Leads in_declarator l.parts l.part-index l.initial.listing l.listing
