use Rattle.cl_listing.specs.Listing.{in_expr, joined}
use Rattle.cl_listing.specs.Listed.{listed_all}
use Rattle.cl_listing.specs.Walks.{in_chain, in_field, in_link}
use Rattle.std.proofs.Common.{◌≡◌, map, drop}
use Rattle.cl_listing.proofs.Walking.{Leads}
use Rattle.cl_listing.proofs.expression.+listing.Given as goal

abbrev pub invariant-arguments-loop-i : goal.invariant-arguments-loop-i
invariant-arguments-loop-i l = Leads in_expr l.parts l.i l.initial.listing l.listing

abbrev pub invariant-fields-loop-i : goal.invariant-fields-loop-i
invariant-fields-loop-i l = Leads in_field l.parts l.i l.initial.listing l.listing

-- the operands that are left lead to the whole chain
abbrev pub invariant-chain-loop-i : goal.invariant-chain-loop-i
invariant-chain-loop-i l = listed_all (joined (map in_link (drop l.i l.links))) l.listing ≡ listed_all (in_chain l.fn.part) l.fn.listing
