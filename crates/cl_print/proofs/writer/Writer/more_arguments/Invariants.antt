use Rattle.std.proofs.Common.{◌≡◌, drop, map}
use Rattle.cl_print.specs.Spelling.{after}
use Rattle.cl_print.specs.Expressions.{behind_commas}
use Rattle.cl_print.specs.Statements.{spanned_kinds}
use Rattle.cl_print.proofs.writer.Writer.more_arguments.Given as goal

abbrev pub invariant-loop-argument : goal.invariant-loop-argument
invariant-loop-argument l = after l.self (behind_commas (map spanned_kinds (drop l.argument-index l.arguments))) ≡ after l.fn.self (behind_commas (map spanned_kinds l.arguments))
