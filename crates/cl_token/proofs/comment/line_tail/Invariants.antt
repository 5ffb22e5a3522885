use Rattle.std.proofs.Common.{◌≡◌, ◌≤◌, length}
use Rattle.cl_ast.specs.Ends.{tail_end}
use Rattle.cl_token.proofs.comment.line_tail.Given as goal

abbrev pub invariant-loop-end : goal.invariant-loop-end
invariant-loop-end l =
    record {
      same : tail_end l.rest ≡ tail_end l.bytes;
      within : length l.rest ≤ length l.bytes;
    }

abbrev pub decreases-loop-end : goal.decreases-loop-end
decreases-loop-end l = length l.rest
