use Rattle.std.proofs.Common.{length, ◌-◌, ◌+◌, ◌≡◌, ◌≤◌}
use Rattle.cl_outside.specs.Streams.{Takes}
use Rattle.cl_outside.proofs.reading.read_all.Given as goal

abbrev pub invariant-loop-buffer : goal.invariant-loop-buffer
invariant-loop-buffer g l =
    record {
      few : length l.all.items ≤ l.max + 1;
      buffer : length l.buffer ≡ 4096;
      taken : Takes (length l.all.items) l.all.items (g.I.Source.left l.initial.src) (g.I.Source.left l.src);
      kept : g.I.Source.faults l.src ≡ g.I.Source.faults l.initial.src;
    }

abbrev pub decreases-loop-buffer : goal.decreases-loop-buffer
decreases-loop-buffer g l = l.max + 1 - length l.all.items
