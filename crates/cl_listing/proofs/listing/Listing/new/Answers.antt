use Rattle.std.proofs.Common.{◌∙◌, ap}
use Rattle.cl_listing.specs.Listing.{in_items}
use Rattle.cl_listing.specs.Listed.{listed_all}
use Rattle.cl_listing.proofs.Walking.{whole}
use Rattle.cl_listing.proofs.listing.Listing.new.Goals as goal

pub returns : goal.returns
returns c = whole (in_items c.args.unit.now.items) _ _ c.empty-listing.ensures (c.in_ok-items.ensures ∙ ap (λ xs. listed_all (in_items xs) c.empty-listing.result) c.as_slice.ensures)
