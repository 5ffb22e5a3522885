use Rattle.cl_limits.proofs.Laws.{only_ticks}
use Rattle.cl_limits.proofs.Runs.{run_with_more}
use Rattle.cl_limits.proofs.ticks.more_ticks_change_nothing_else.Goals as goal

pub returns-clause-demands : goal.returns-clause-demands
returns-clause-demands c = only_ticks

pub returns-clause-runs : goal.returns-clause-runs
returns-clause-runs c = run_with_more
