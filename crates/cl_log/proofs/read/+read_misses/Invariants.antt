use Rattle.cl_log.proofs.read.+read_misses.Given as goal

abbrev pub decreases-read_misses : goal.decreases-read_misses
decreases-read_misses l = l.count
