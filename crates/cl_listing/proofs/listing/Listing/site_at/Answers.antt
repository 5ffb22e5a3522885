use Rattle.std.proofs.Common.{◌∙◌, ap}
use Rattle.cl_listing.specs.Listed.{Listed}
use Rattle.cl_listing.specs.Tables.{number_of}
use Rattle.cl_listing.proofs.Numbers.{finds_site, numbers_site}
use Rattle.cl_listing.proofs.listing.Listing.site_at.Goals as goal

pub returns-clause-there : goal.returns-clause-there
returns-clause-there c es hs =
    finds_site c.args.place es c.args.self.now.sites _ (c.copied.ensures ∙ (c.get.ensures.value ∙ (c.self.invariant c.args.place ∙ ap (λ (l : Listed). number_of c.args.place l.sites) c.self.view_is))) hs

pub returns-clause-number : goal.returns-clause-number
returns-clause-number c es hs =
    numbers_site c.args.place es c.args.self.now.sites _ (c.copied.ensures ∙ (c.get.ensures.value ∙ (c.self.invariant c.args.place ∙ ap (λ (l : Listed). number_of c.args.place l.sites) c.self.view_is))) hs
