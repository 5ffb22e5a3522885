use Rattle.std.proofs.Common.{◌≡◌, drop, map}
use Rattle.cl_print.specs.Spelling.{after}
use Rattle.cl_print.specs.Expressions.{listed, listed_on}
use Rattle.cl_print.specs.Statements.{declarator_kinds}
use Rattle.cl_print.proofs.writer.Writer.declarators.Given as goal

abbrev pub invariant-loop-declarator : goal.invariant-loop-declarator
invariant-loop-declarator l = after l.self (listed_on l.is_first (map declarator_kinds (drop l.declarator-index l.declarators))) ≡ after l.fn.self (listed (map declarator_kinds l.declarators))
