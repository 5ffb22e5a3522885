use Rattle.std.proofs.Common.{◌≡◌, ◌+◌, ◌<◌, length, sym, ◌∙◌, arith}
use Rattle.std.proofs.lemmas.List.{length-map}
use Rattle.cl_sig.specs.Chains.{neighbours}
use Rattle.cl_sig.specs.Views.{plain_signature}
use Rattle.cl_partition.specs.Labels.{plain_sites}
use Rattle.cl_partition.proofs.LabelLaws.{Looked, looked-near, looked-far, neighbours-plain}
use Rattle.cl_partition.proofs.labels.join_earlier.Goals as goal
use Rattle.cl_partition.proofs.labels.join_earlier.Goals.{then-may_pair, else-may_pair}

pub loop-other-preserved : goal.loop-other-preserved
loop-other-preserved c =
    let sites = c.args.sites.now.items in
    let within : c.args.site < length (plain_sites sites) = omega (arith, length-map sites plain_signature) in
    let same : neighbours (plain_sites sites) c.args.site c.loop-other.other ≡ c.may_pair.result =
    neighbours-plain sites c.args.site c.loop-other.other c.at.result.now c.at-in-loop-other.result.now c.at.ensures c.at-in-loop-other.ensures ∙ sym c.may_pair.ensures in
    let so_far : Looked (plain_sites sites) c.args.labels.now c.loop-other.labels c.args.site c.loop-other.other =
    record { labels = c.loop-other.invariant.labels; coarser = c.loop-other.invariant.coarser; joined = c.loop-other.invariant.joined } in
    let next : Looked (plain_sites sites) c.args.labels.now c.if-may_pair.labels c.args.site (c.loop-other.other + 1) =
    elim c.if-may_pair.branch [
      | then-may_pair w ↦
          looked-near (plain_sites sites) c.args.labels.now c.loop-other.labels c.if-may_pair.labels c.args.site c.loop-other.other within c.loop-other-test.true (same ∙ w.if-may_pair.true) (w.labels-is ∙ w.join.ensures) so_far
      | else-may_pair w ↦
          looked-far (plain_sites sites) c.args.labels.now c.loop-other.labels c.if-may_pair.labels c.args.site c.loop-other.other within c.loop-other-test.true (same ∙ w.if-may_pair.false) w.labels-is so_far
    ] in
    record { labels = next.labels; coarser = next.coarser; joined = next.joined }
