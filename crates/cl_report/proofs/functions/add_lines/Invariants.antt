use Rattle.std.proofs.Common.{◌≡◌, ◌+◌, ◌++◌, drop}
use Rattle.cl_report.specs.Listing.{instruction_lines}
use Rattle.cl_report.proofs.functions.add_lines.Given as goal

abbrev pub invariant-loop-number : goal.invariant-loop-number
invariant-loop-number l = l.text ++ instruction_lines (l.entry + l.number) (drop l.number l.code) ≡ l.fn.text ++ instruction_lines l.entry l.code
