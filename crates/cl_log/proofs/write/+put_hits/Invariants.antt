use Rattle.std.proofs.Common.{length}
use Rattle.cl_log.proofs.write.+put_hits.Given as goal

abbrev pub decreases-put_hits : goal.decreases-put_hits
decreases-put_hits l = length l.slots.now
