use Rattle.cl_text.proofs.Stages.{then}
use Rattle.cl_text.proofs.buffer.OutputBuffer.put_quoted.Goals as goal

pub returns : goal.returns
returns g c = then _ _ _ _ _ (then _ _ _ _ _ c.put.ensures c.put_all_escaped.ensures) c.put-2.ensures
