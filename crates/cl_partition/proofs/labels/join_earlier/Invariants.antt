use Rattle.cl_partition.specs.Labels.{AreLabels, Coarser, JoinedWith, plain_sites}
use Rattle.cl_partition.proofs.labels.join_earlier.Given as goal

abbrev pub invariant-loop-other : goal.invariant-loop-other
invariant-loop-other l =
    record {
      labels : AreLabels (plain_sites l.sites.items) l.labels;
      coarser : Coarser l.fn.labels l.labels;
      joined : JoinedWith (plain_sites l.sites.items) l.labels l.site l.other;
    }
