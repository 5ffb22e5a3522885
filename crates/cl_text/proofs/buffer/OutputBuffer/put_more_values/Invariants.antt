use Rattle.std.proofs.Common.{drop}
use Rattle.cl_value.specs.Text.{more_values_text}
use Rattle.cl_text.specs.Stages.{stage}
use Rattle.cl_text.specs.Tables.{texts_of}
use Rattle.cl_text.proofs.Stages.{Reached}
use Rattle.cl_text.proofs.buffer.OutputBuffer.put_more_values.Given as goal

abbrev pub invariant-loop-value : goal.invariant-loop-value
invariant-loop-value g l =
    Reached (more_values_text (texts_of l.texts) l.values) (more_values_text (texts_of l.texts) (drop l.value-index l.values))
    (stage (g.O.Sink.written l.initial.out) (g.O.Sink.faults l.initial.out) l.initial.self)
    (stage (g.O.Sink.written l.out) (g.O.Sink.faults l.out) l.self)
