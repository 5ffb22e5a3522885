use Rattle.std.proofs.Common.{◌++◌, ap}
use Rattle.std.specs.Prelude.{codes}
use Rattle.cl_value.specs.Text.{tuple_text}
use Rattle.cl_text.specs.Tables.{texts_of}
use Rattle.cl_text.proofs.Stages.{then, alike}
use Rattle.cl_trace.proofs.reports.put_ended.Goals as goal

pub returns : goal.returns
returns g c =
    alike _ _ _ _ (ap (λ vs. codes "ended " ++ tuple_text (texts_of c.args.texts.now) vs) c.fields.ensures) (then _ _ _ _ _ c.put.ensures c.put_tuple.ensures)
