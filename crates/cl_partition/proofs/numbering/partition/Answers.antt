use Rattle.std.proofs.Common.{length, sym, subst}
use Rattle.std.proofs.lemmas.List.{length-map}
use Rattle.cl_sig.specs.Views.{plain_signature}
use Rattle.cl_partition.specs.Labels.{plain_sites, AreLabels, JoinedBefore}
use Rattle.cl_partition.proofs.NumberLaws.{ok_partition}
use Rattle.cl_partition.proofs.numbering.partition.Goals as goal

pub returns : goal.returns
returns c =
    let sites = plain_sites c.args.sites.now.items in
    let ls = c.as_slice.result.now in
    let labels : AreLabels sites ls = subst (AreLabels sites) (sym c.as_slice.ensures.value) c.in_ok-labels.ensures.labels in
    let joined : JoinedBefore sites ls (length sites) =
    subst (λ z. JoinedBefore sites z (length sites)) (sym c.as_slice.ensures.value)
    (subst (JoinedBefore sites c.in_ok-labels.labels.items) (sym (length-map c.args.sites.now.items plain_signature)) c.in_ok-labels.ensures.joined) in
    record { chains = ok_partition sites ls c.numbered.result labels joined c.numbered.ensures.same c.numbered.ensures.order }
