use Rattle.std.proofs.Common.{◌++◌, ap}
use Rattle.cl_value.specs.Text.{process_line, output_text}
use Rattle.cl_value.specs.Views.{plain_report}
use Rattle.cl_text.specs.Tables.{texts_of}
use Rattle.cl_text.proofs.Stages.{then, alike}
use Rattle.cl_trace.proofs.reports.put_report.Goals as goal

pub returns : goal.returns
returns g c =
    alike _ _ _ _ (ap (λ o. process_line (texts_of c.args.texts.now) (plain_report c.args.report.now) ++ output_text o) c.as_slice.ensures) (then _ _ _ _ _ c.put_process_line.ensures c.put_output.ensures)
