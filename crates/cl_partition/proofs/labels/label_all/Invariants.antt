use Rattle.cl_partition.specs.Labels.{AreLabels, JoinedBefore, plain_sites}
use Rattle.cl_partition.proofs.labels.label_all.Given as goal

abbrev pub invariant-loop-site : goal.invariant-loop-site
invariant-loop-site l =
    record {
      labels : AreLabels (plain_sites l.sites.items) l.labels;
      joined : JoinedBefore (plain_sites l.sites.items) l.labels l.site;
    }
