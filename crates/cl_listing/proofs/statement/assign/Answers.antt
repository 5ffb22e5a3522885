use Rattle.cl_listing.specs.Listing.{in_place, in_change}
use Rattle.cl_listing.proofs.Walking.{on_ok, two_listed}
use Rattle.cl_listing.proofs.statement.assign.Goals as goal

pub returns : goal.returns
returns c = on_ok c.change.result c.change.ensures (λ h. two_listed (in_place c.args.part.now.place) (in_change c.args.part.now.change) c.args.listing.now c.place.new.listing _ c.in_ok-place.ensures h)
