use Rattle.std.proofs.Common.{◌≡◌, drop, map}
use Rattle.cl_print.specs.Spelling.{after}
use Rattle.cl_print.specs.Statements.{in_order, stmt_line}
use Rattle.cl_print.proofs.writer.Writer.+statements.Given as goal

abbrev pub invariant-statements-loop-stmt : goal.invariant-statements-loop-stmt
invariant-statements-loop-stmt l = after l.self (in_order (map stmt_line (drop l.stmt-index l.statements))) ≡ after l.fn.self (in_order (map stmt_line l.statements))
