use Rattle.std.proofs.Common.{◌≡◌, ◌++◌, drop}
use Rattle.std.specs.Prelude.{map}
use Rattle.cl_report.specs.Analysis.{more_marks_text}
use Rattle.cl_report.proofs.field.add_more_marks.Given as goal

abbrev pub invariant-loop-mark : goal.invariant-loop-mark
invariant-loop-mark l = l.text ++ more_marks_text (map (λ xs. xs.items) l.texts) (drop l.mark-index l.fields) ≡ l.fn.text ++ more_marks_text (map (λ xs. xs.items) l.texts) l.fields
