use Rattle.std.proofs.Common.{◌≡◌, ◌≤◌, length}
use Rattle.cl_ast.specs.Rows.{after_close}
use Rattle.cl_token.proofs.comment.after_close.Given as goal

abbrev pub invariant-loop-rest : goal.invariant-loop-rest
invariant-loop-rest l =
    record {
      same : after_close l.rest ≡ after_close l.bytes;
      within : length l.rest ≤ length l.bytes;
    }

abbrev pub decreases-loop-rest : goal.decreases-loop-rest
decreases-loop-rest l = length l.rest
