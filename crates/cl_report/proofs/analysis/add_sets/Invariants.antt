use Rattle.std.proofs.Common.{◌≡◌, ◌++◌, drop}
use Rattle.cl_report.specs.Analysis.{set_lines}
use Rattle.cl_report.proofs.analysis.add_sets.Given as goal

abbrev pub invariant-loop-number : goal.invariant-loop-number
invariant-loop-number l = l.text ++ set_lines l.sets l.number (drop l.number l.classes) ≡ l.fn.text ++ set_lines l.sets 0 l.classes
