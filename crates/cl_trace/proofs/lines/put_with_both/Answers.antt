use Rattle.std.proofs.Common.{◌++◌, ap}
use Rattle.std.specs.Prelude.{codes}
use Rattle.cl_value.specs.Text.{tuple_text}
use Rattle.cl_text.specs.Tables.{texts_of}
use Rattle.cl_text.proofs.Stages.{then, alike}
use Rattle.cl_trace.specs.Lines.{template_text}
use Rattle.cl_trace.proofs.lines.put_with_both.Goals as goal

pub returns : goal.returns
returns g c =
    alike _ _ _ _ (ap (λ vs. c.args.word.now ++ template_text (texts_of c.args.texts.now) c.args.template.now.items ++ codes " " ++ tuple_text (texts_of c.args.texts.now) vs) c.fields-values.ensures) (then _ _ _ _ _ (then _ _ _ _ _ c.put_with_template.ensures c.put.ensures) c.put_tuple.ensures)
