use Rattle.cl_types.specs.Fields.{place_forms}
use Rattle.cl_types.specs.Found.{change_forms}
use Rattle.cl_types.specs.Findings.{seen}
use Rattle.cl_types.proofs.Walking.{on_ok}
use Rattle.cl_types.proofs.Gathering.{two_found}
use Rattle.cl_types.proofs.fields.statement.assign.Goals as goal

pub returns : goal.returns
returns c =
    on_ok c.change.result c.change.ensures (λ h.
    two_found (seen c.args.sites.now) (place_forms c.args.part.now.place c.args.scopes.now) (change_forms c.args.part.now.change c.args.scopes.now) (seen c.place.new.sites) _ c.in_ok-place.ensures h)
