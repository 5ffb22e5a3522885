use Rattle.std.proofs.Common.{drop}
use Rattle.std.specs.Prelude.{map}
use Rattle.cl_value.specs.LiveViews.{plain_part}
use Rattle.cl_text.specs.Stages.{stage}
use Rattle.cl_text.specs.Tables.{texts_of}
use Rattle.cl_text.proofs.Stages.{Reached}
use Rattle.cl_trace.specs.Lines.{more_parts_text}
use Rattle.cl_trace.proofs.lines.put_more_parts.Given as goal

abbrev pub invariant-loop-part : goal.invariant-loop-part
invariant-loop-part g l =
    Reached (more_parts_text (texts_of l.texts) (map plain_part l.parts)) (more_parts_text (texts_of l.texts) (map plain_part (drop l.part-index l.parts)))
    (stage (g.O.Sink.written l.initial.out) (g.O.Sink.faults l.initial.out) l.initial.buffer)
    (stage (g.O.Sink.written l.out) (g.O.Sink.faults l.out) l.buffer)
