use Rattle.cl_text.proofs.Stages.{then}
use Rattle.cl_trace.proofs.lines.put_call.Goals as goal

pub returns : goal.returns
returns g c =
    rw (← c.from.ensures) (then _ _ _ _ _ c.put_numbered.ensures c.put_tuple.ensures)
