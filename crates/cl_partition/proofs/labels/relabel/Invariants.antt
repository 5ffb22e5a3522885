use Rattle.std.proofs.Common.{◌≡◌, ◌<◌, ◌≤◌, ℕ}
use Rattle.cl_partition.specs.Labels.{label, relabelled}
use Rattle.cl_partition.proofs.labels.relabel.Given as goal

abbrev pub invariant-loop-label : goal.invariant-loop-label
invariant-loop-label l =
    record {
      done : (k : ℕ) → k < l.label-index → label l.labels k ≡ relabelled l.from l.to (label l.fn.labels k);
      rest : (k : ℕ) → l.label-index ≤ k → label l.labels k ≡ label l.fn.labels k;
    }
