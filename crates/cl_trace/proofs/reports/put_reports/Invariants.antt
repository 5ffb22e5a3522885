use Rattle.std.proofs.Common.{drop}
use Rattle.std.specs.Prelude.{map}
use Rattle.cl_value.specs.Text.{reports_text}
use Rattle.cl_value.specs.Views.{plain_report}
use Rattle.cl_text.specs.Stages.{stage}
use Rattle.cl_text.specs.Tables.{texts_of}
use Rattle.cl_text.proofs.Stages.{Reached}
use Rattle.cl_trace.proofs.reports.put_reports.Given as goal

abbrev pub invariant-loop-report : goal.invariant-loop-report
invariant-loop-report g l =
    Reached (reports_text (texts_of l.texts) (map plain_report l.reports)) (reports_text (texts_of l.texts) (map plain_report (drop l.report-index l.reports)))
    (stage (g.O.Sink.written l.initial.out) (g.O.Sink.faults l.initial.out) l.initial.buffer)
    (stage (g.O.Sink.written l.out) (g.O.Sink.faults l.out) l.buffer)
