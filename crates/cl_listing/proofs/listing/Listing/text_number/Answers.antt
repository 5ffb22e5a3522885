use Rattle.std.proofs.Common.{◌≡◌, ◌∙◌, ap, length, subst}
use Rattle.std.specs.Prelude.{unwrap_or}
use Rattle.cl_listing.specs.Listing.{is_among, text_number}
use Rattle.cl_listing.specs.Listed.{Listed}
use Rattle.cl_listing.proofs.Numbers.{among_is, numbers_text}
use Rattle.cl_listing.proofs.listing.Listing.text_number.Goals as goal

pub returns-clause-there : goal.returns-clause-there
returns-clause-there c = c.get_index_of.ensures.found ∙ (among_is c.args.bytes.now c.self.inside.texts.keys ∙ ap (λ (l : Listed). is_among c.args.bytes.now l.texts) c.self.view_is)

pub returns-clause-number : goal.returns-clause-number
returns-clause-number c =
    let P : Listed → Type 0 = λ l. unwrap_or c.get_index_of.result (length l.texts) ≡ text_number c.args.bytes.now l.texts in
    subst P c.self.view_is (numbers_text c.args.bytes.now c.self.inside.texts.keys _ c.get_index_of.ensures.index)
