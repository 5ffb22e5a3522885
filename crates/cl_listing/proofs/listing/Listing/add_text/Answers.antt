use Rattle.std.proofs.Common.{◌∙◌, ap}
use Rattle.cl_listing.specs.Listed.{with_text}
use Rattle.cl_listing.proofs.Numbers.{text_added}
use Rattle.cl_listing.proofs.listing.Listing.add_text.Goals as goal

pub returns : goal.returns
returns c =
    ap (λ ts. record { sites = c.self.inside.sites.items; texts = ts }) (text_added c.args.bytes c.self.inside.texts.keys _ c.in_ok-insert.ensures.keys) ∙ ap (with_text c.args.bytes.now) c.self.view_is
