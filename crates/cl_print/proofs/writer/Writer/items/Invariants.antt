use Rattle.std.proofs.Common.{◌≡◌, drop}
use Rattle.cl_print.specs.Spelling.{after_all}
use Rattle.cl_print.specs.Writing.{written}
use Rattle.cl_print.proofs.writer.Writer.items.Given as goal

abbrev pub invariant-loop-item : goal.invariant-loop-item
invariant-loop-item l = after_all l.self (written (drop l.item-index l.items)) ≡ after_all l.fn.self (written l.items)
