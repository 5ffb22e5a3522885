use Rattle.cl_partition.proofs.ApartLaws.{never_meet, instances_never_match}
use Rattle.cl_partition.proofs.laws.sets_never_meet.Goals as goal

pub returns : goal.returns
returns c = record { apart = never_meet; requests = instances_never_match }
