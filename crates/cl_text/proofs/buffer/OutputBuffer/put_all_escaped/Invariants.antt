use Rattle.std.proofs.Common.{drop}
use Rattle.cl_value.specs.Text.{escaped_all}
use Rattle.cl_text.specs.Stages.{stage}
use Rattle.cl_text.proofs.Stages.{Reached}
use Rattle.cl_text.proofs.buffer.OutputBuffer.put_all_escaped.Given as goal

abbrev pub invariant-loop-byte : goal.invariant-loop-byte
invariant-loop-byte g l =
    Reached (escaped_all l.bytes) (escaped_all (drop l.byte-index l.bytes))
    (stage (g.O.Sink.written l.initial.out) (g.O.Sink.faults l.initial.out) l.initial.self)
    (stage (g.O.Sink.written l.out) (g.O.Sink.faults l.out) l.self)
