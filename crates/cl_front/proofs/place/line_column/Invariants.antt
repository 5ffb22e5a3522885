use Rattle.std.proofs.Common.{◌≡◌, ◌≤◌, ◌+◌, drop}
use Rattle.cl_front.specs.Places.{line_from, column_from}
use Rattle.cl_front.proofs.place.line_column.Given as goal

-- where the rest goes on, and no number past the count of bytes
abbrev pub invariant-loop-byte : goal.invariant-loop-byte
invariant-loop-byte l =
    record {
      line : line_from 1 l.before ≡ line_from l.line (drop l.byte-index l.before);
      column : column_from 1 l.before ≡ column_from l.column (drop l.byte-index l.before);
      line_bound : l.line ≤ l.byte-index + 1;
      column_bound : l.column ≤ l.byte-index + 1;
    }
