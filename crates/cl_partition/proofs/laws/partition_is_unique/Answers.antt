use Rattle.cl_partition.proofs.UniqueLaws.{partitions_are_one}
use Rattle.cl_partition.proofs.laws.partition_is_unique.Goals as goal

pub returns : goal.returns
returns c = record { unique = partitions_are_one }
