use Rattle.std.proofs.Common.{length, ◌-◌, ◌≡◌, ◌≤◌, take}
use Rattle.cl_outside.specs.Streams.{Appends}
use Rattle.cl_outside.proofs.writing.write_all.Given as goal

abbrev pub invariant-loop-written : goal.invariant-loop-written
invariant-loop-written g l =
    record {
      few : l.written ≤ length l.bytes;
      part : Appends (g.O.Sink.written l.initial.sink) (take l.written l.bytes) (g.O.Sink.written l.sink);
      kept : g.O.Sink.faults l.sink ≡ g.O.Sink.faults l.initial.sink;
    }

abbrev pub decreases-loop-written : goal.decreases-loop-written
decreases-loop-written g l = length l.bytes - l.written
