use Rattle.cl_text.proofs.Stages.{then}
use Rattle.cl_text.proofs.buffer.OutputBuffer.put_char.Goals as goal

pub returns : goal.returns
returns g c = rw (← c.from.ensures) (then _ _ _ _ _ c.put_number.ensures c.put.ensures)
