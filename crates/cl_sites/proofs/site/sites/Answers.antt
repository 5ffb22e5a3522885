use Rattle.std.proofs.Common.{◌∙◌, ap, sym, subst, map}
use Rattle.std.proofs.lemmas.Result.{IfOk-weaker}
use Rattle.cl_types.specs.EachTyped.{EachNarrow}
use Rattle.cl_types.specs.Findings.{seen}
use Rattle.cl_sites.proofs.Narrow.{each_narrow}
use Rattle.cl_sites.proofs.PlacesOfTexts.{places_listed}
use Rattle.cl_sites.specs.Sites.{signature_of}
use Rattle.cl_sites.proofs.site.sites.Goals as goal

pub returns-clause-narrow : goal.returns-clause-narrow
returns-clause-narrow c =
    let narrow : EachNarrow (seen c.as_slice.result.now) = subst EachNarrow (sym (ap seen c.as_slice.ensures ∙ c.in-Ok.ensures.sites)) c.in-Ok.ensures.narrow in
    IfOk-weaker c.signatures.result _ _ (λ all told. each_narrow _ all.items _ told narrow) c.signatures.ensures.told

pub returns-clause-places : goal.returns-clause-places
returns-clause-places c =
    IfOk-weaker c.signatures.result _ _ (λ all told. places_listed _ c.args.typed.now.items all.items (told ∙ ap (map (signature_of _)) (ap seen c.as_slice.ensures ∙ c.in-Ok.ensures.sites))) c.signatures.ensures.told
