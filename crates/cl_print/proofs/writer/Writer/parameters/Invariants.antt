use Rattle.std.proofs.Common.{◌≡◌, drop, map}
use Rattle.cl_print.specs.Spelling.{after}
use Rattle.cl_print.specs.Expressions.{listed, listed_on}
use Rattle.cl_print.specs.Writing.{parameter_kinds}
use Rattle.cl_print.proofs.writer.Writer.parameters.Given as goal

abbrev pub invariant-loop-parameter : goal.invariant-loop-parameter
invariant-loop-parameter l = after l.self (listed_on l.is_first (map parameter_kinds (drop l.parameter-index l.parameters))) ≡ after l.fn.self (listed (map parameter_kinds l.parameters))
