use Rattle.cl_log.proofs.read.+read_values.Given as goal

abbrev pub decreases-read_values : goal.decreases-read_values
decreases-read_values l = l.count
