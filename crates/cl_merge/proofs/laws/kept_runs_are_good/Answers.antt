use Rattle.cl_merge.proofs.Runs.{good_run}
use Rattle.cl_merge.proofs.laws.kept_runs_are_good.Goals as goal

pub returns : goal.returns
returns c = record { good = good_run }
