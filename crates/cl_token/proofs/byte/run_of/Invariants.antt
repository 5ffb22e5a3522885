use Rattle.std.proofs.Common.{◌≡◌, drop, ◌+◌}
use Rattle.cl_ast.specs.Rows.{run}
use Rattle.cl_token.specs.Scanning.{kind_test}
use Rattle.cl_token.proofs.byte.run_of.Given as goal

abbrev pub invariant-loop-i : goal.invariant-loop-i
invariant-loop-i l = run (kind_test l.kind) (drop l.i l.bytes) + l.i ≡ run (kind_test l.kind) l.bytes
