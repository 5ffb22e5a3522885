use Rattle.cl_listing.specs.Walks.{in_item}
use Rattle.cl_listing.proofs.Walking.{Leads}
use Rattle.cl_listing.proofs.item.items.Given as goal

abbrev pub invariant-loop-part : goal.invariant-loop-part
invariant-loop-part l = Leads in_item l.parts l.part-index l.initial.listing l.listing
