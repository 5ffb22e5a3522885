use Rattle.cl_text.proofs.Stages.{then}
use Rattle.cl_trace.proofs.lines.put_with_live.Goals as goal

pub returns : goal.returns
returns g c =
    then _ _ _ _ _ c.put.ensures c.put_live.ensures
