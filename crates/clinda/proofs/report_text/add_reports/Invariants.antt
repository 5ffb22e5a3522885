use Rattle.std.proofs.Common.{◌≡◌, ◌++◌, drop}
use Rattle.std.specs.Prelude.{map}
use Rattle.cl_value.specs.Text.{reports_text}
use Rattle.cl_value.specs.Views.{plain_report}
use Rattle.cl_text.specs.Tables.{texts_of}
use Rattle.clinda.proofs.report_text.add_reports.Given as goal

abbrev pub invariant-loop-report : goal.invariant-loop-report
invariant-loop-report l = l.text ++ reports_text (texts_of l.texts) (map plain_report (drop l.report-index l.reports)) ≡ l.fn.text ++ reports_text (texts_of l.texts) (map plain_report l.reports)
