use Rattle.cl_log.proofs.read.+read_hits.Given as goal

abbrev pub decreases-read_hits : goal.decreases-read_hits
decreases-read_hits l = l.count
