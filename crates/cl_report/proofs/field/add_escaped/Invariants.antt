use Rattle.std.proofs.Common.{◌≡◌, ◌++◌, drop}
use Rattle.cl_value.specs.Text.{escaped_all}
use Rattle.cl_report.proofs.field.add_escaped.Given as goal

abbrev pub invariant-loop-byte : goal.invariant-loop-byte
invariant-loop-byte l = l.text ++ escaped_all (drop l.byte-index l.bytes) ≡ l.fn.text ++ escaped_all l.bytes
