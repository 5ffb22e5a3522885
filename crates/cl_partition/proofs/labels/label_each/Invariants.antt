use Rattle.std.proofs.Common.{◌≡◌, ◌<◌, ℕ}
use Rattle.cl_partition.specs.Labels.{label}
use Rattle.cl_partition.proofs.labels.label_each.Given as goal

abbrev pub invariant-loop-site : goal.invariant-loop-site
invariant-loop-site l = (k : ℕ) → k < l.site → label l.labels k ≡ k
