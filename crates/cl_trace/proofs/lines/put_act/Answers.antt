use Rattle.cl_text.proofs.Stages.{then}
use Rattle.cl_trace.proofs.lines.put_act.Goals as goal

pub returns : goal.returns
returns g c =
    rw (← c.from.ensures) (then _ _ _ _ _ (then _ _ _ _ _ (then _ _ _ _ _ (then _ _ _ _ _ (then _ _ _ _ _ (then _ _ _ _ _ (then _ _ _ _ _ c.put_number.ensures c.put.ensures) c.put_number-2.ensures) c.put-2.ensures) c.put_number-3.ensures) c.put-3.ensures) c.put_what.ensures) c.put-4.ensures)
