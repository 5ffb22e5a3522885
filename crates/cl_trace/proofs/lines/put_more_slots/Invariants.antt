use Rattle.std.proofs.Common.{drop}
use Rattle.cl_text.specs.Stages.{stage}
use Rattle.cl_text.specs.Tables.{texts_of}
use Rattle.cl_text.proofs.Stages.{Reached}
use Rattle.cl_trace.specs.Lines.{more_slots_text}
use Rattle.cl_trace.proofs.lines.put_more_slots.Given as goal

abbrev pub invariant-loop-slot : goal.invariant-loop-slot
invariant-loop-slot g l =
    Reached (more_slots_text (texts_of l.texts) l.slots) (more_slots_text (texts_of l.texts) (drop l.slot-index l.slots))
    (stage (g.O.Sink.written l.initial.out) (g.O.Sink.faults l.initial.out) l.initial.buffer)
    (stage (g.O.Sink.written l.out) (g.O.Sink.faults l.out) l.buffer)
