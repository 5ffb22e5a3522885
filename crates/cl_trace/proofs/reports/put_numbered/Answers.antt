use Rattle.cl_text.proofs.Stages.{then}
use Rattle.cl_trace.proofs.reports.put_numbered.Goals as goal

pub returns : goal.returns
returns g c = then _ _ _ _ _ c.put.ensures c.put_number.ensures
