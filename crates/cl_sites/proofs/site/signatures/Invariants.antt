use Rattle.std.proofs.Common.{◌≡◌, ◌<◌, length, map, take}
use Rattle.std.specs.List.{All}
use Rattle.cl_sig.specs.Views.{plain_signature}
use Rattle.cl_types.specs.Findings.{seen}
use Rattle.cl_sites.specs.Sites.{signature_of}
use Rattle.cl_sites.proofs.site.signatures.Given as goal

abbrev pub invariant-loop-site : goal.invariant-loop-site
invariant-loop-site l = record {
  told : map plain_signature l.all.items ≡ map (signature_of l.listing.texts) (seen (take l.site-index l.sites));
  filled : All (λ s. 0 < length s.fields.items) l.all.items;
}
