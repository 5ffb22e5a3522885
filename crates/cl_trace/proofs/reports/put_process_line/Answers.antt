use Rattle.std.proofs.Common.{◌++◌, ap}
use Rattle.std.specs.Prelude.{codes}
use Rattle.std.specs.Fmt.{decimal}
use Rattle.cl_value.specs.Text.{line, end_text}
use Rattle.cl_value.specs.Views.{plain_end}
use Rattle.cl_text.specs.Tables.{texts_of}
use Rattle.cl_text.proofs.Stages.{then, alike}
use Rattle.cl_trace.proofs.reports.put_process_line.Goals as goal

pub returns : goal.returns
returns g c =
    let report = c.args.report.now in
    alike _ _ _ _
    (ap (λ n. line (codes "process " ++ decimal report.name ++ codes " " ++ end_text (texts_of c.args.texts.now) (plain_end report.end) ++ codes " acts " ++ decimal n)) c.acts_of-acts.ensures)
    (then _ _ _ _ _ (then _ _ _ _ _ (then _ _ _ _ _ (then _ _ _ _ _ (then _ _ _ _ _ c.put_numbered.ensures c.put.ensures) c.put_end.ensures) c.put-2.ensures) c.put_number.ensures) c.put-3.ensures)
