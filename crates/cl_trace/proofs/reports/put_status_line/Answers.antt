use Rattle.cl_text.proofs.Stages.{then}
use Rattle.cl_trace.proofs.reports.put_status_line.Goals as goal

pub returns : goal.returns
returns g c = then _ _ _ _ _ (then _ _ _ _ _ (then _ _ _ _ _ (then _ _ _ _ _ (then _ _ _ _ _ c.put_numbered.ensures c.put.ensures) c.put_number.ensures) c.put-2.ensures) c.put_number-2.ensures) c.put-3.ensures
