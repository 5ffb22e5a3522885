use Rattle.cl_log.proofs.read.+read_parts.Given as goal

abbrev pub decreases-read_parts : goal.decreases-read_parts
decreases-read_parts l = l.count
