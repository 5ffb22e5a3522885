use Rattle.cl_text.proofs.Stages.{then}
use Rattle.cl_text.proofs.buffer.OutputBuffer.put.Goals as goal

pub returns : goal.returns
returns g c = then _ _ _ _ _ c.flush.ensures.puts c.begin.ensures
