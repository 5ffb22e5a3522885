use Rattle.std.proofs.Common.{◌∙◌, [], ◌∷◌, ◌++◌, ap, List, ℕ, length, nat_eq}
use Rattle.std.specs.HashMap.{get}
use Rattle.cl_listing.proofs.Numbers.{numbered}
use Rattle.cl_listing.proofs.listing.Listing.add_site.Goals as goal

pub invariant_of-self-2 : goal.invariant_of-self-2
invariant_of-self-2 c =
    numbered c.args.place c.self.inside.sites.items _ c.len.result (λ q. get nat_eq c.self.inside.numbers q) (λ q. get nat_eq c.keep_first.new.numbers q)
    (c.push_reserved.ensures.items ∙ ap (λ (ys : List ℕ). ys ++ c.args.place ∷ []) c.reserve.ensures.items)
    (c.len.ensures ∙ (c.reserve.new.self.ok.0 ∙ ap length c.reserve.ensures.items))
    c.self.invariant c.in_ok-keep_first.ensures.kept
