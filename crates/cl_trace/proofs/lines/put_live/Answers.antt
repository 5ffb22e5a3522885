use Rattle.std.proofs.Common.{◌++◌, ap}
use Rattle.std.specs.Prelude.{codes, map}
use Rattle.cl_value.specs.LiveViews.{plain_part}
use Rattle.cl_text.specs.Tables.{texts_of}
use Rattle.cl_trace.specs.Lines.{parts_text}
use Rattle.cl_text.proofs.Stages.{then, alike}
use Rattle.cl_trace.proofs.lines.put_live.Goals as goal

pub returns : goal.returns
returns g c =
    alike _ _ _ _ (ap (λ ps. codes "(" ++ parts_text (texts_of c.args.texts.now) (map plain_part ps) ++ codes ")") c.fields-parts.ensures) (then _ _ _ _ _ (then _ _ _ _ _ c.put.ensures c.put_parts.ensures) c.put-2.ensures)
