use Rattle.std.proofs.Common.{ap, arith, List}
use Rattle.std.specs.Prelude.{map}
use Rattle.std.proofs.lemmas.List.{drop_all}
use Rattle.cl_value.specs.Text.{reports_text}
use Rattle.cl_value.specs.Views.{plain_report}
use Rattle.cl_value.specs.declared.process.Report.{Report}
use Rattle.cl_text.specs.Tables.{texts_of}
use Rattle.cl_text.proofs.Stages.{at_first, more, at_last, next_of}
use Rattle.cl_trace.proofs.reports.put_reports.Goals as goal

pub loop-report-init : goal.loop-report-init
loop-report-init g c = at_first _ _

pub loop-report-preserved : goal.loop-report-preserved
loop-report-preserved g c =
    let texts = texts_of c.args.texts.now in
    let f = λ (rs : List Report). reports_text texts (map plain_report rs) in
    more _ _ _ _ _ _ _ (next_of f c.args.reports.now c.loop-report.report-index c.report-item.result c.report-item.is (omega arith)) c.loop-report.invariant c.put_report.ensures

pub returns : goal.returns
returns g c =
    at_last _ _ _ _ (ap (λ (rs : List Report). reports_text (texts_of c.args.texts.now) (map plain_report rs)) (drop_all c.loop-report.report-index c.args.reports.now (omega arith))) c.loop-report.invariant
