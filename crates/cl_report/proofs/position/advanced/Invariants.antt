use Rattle.std.proofs.Common.{◌≡◌}
use Rattle.cl_report.specs.Positions.{IsAt}
use Rattle.cl_report.proofs.position.advanced.Given as goal

abbrev pub invariant-loop-offset : goal.invariant-loop-offset
invariant-loop-offset l = record { at : IsAt l.source l.position; offset : l.position.offset ≡ l._offset }
