use Rattle.std.proofs.Common.{◌++◌, ap}
use Rattle.cl_value.specs.Text.{tuple_text}
use Rattle.cl_text.specs.Tables.{texts_of}
use Rattle.cl_text.proofs.Stages.{then, alike}
use Rattle.cl_trace.proofs.lines.put_with_tuple.Goals as goal

pub returns : goal.returns
returns g c =
    alike _ _ _ _ (ap (λ vs. c.args.word.now ++ tuple_text (texts_of c.args.texts.now) vs) c.fields-values.ensures) (then _ _ _ _ _ c.put.ensures c.put_tuple.ensures)
