use Rattle.std.proofs.Common.{◌++◌, ap}
use Rattle.std.specs.Prelude.{codes}
use Rattle.cl_text.specs.Tables.{texts_of}
use Rattle.cl_trace.specs.Lines.{slots_text}
use Rattle.cl_text.proofs.Stages.{then, alike}
use Rattle.cl_trace.proofs.lines.put_template.Goals as goal

pub returns : goal.returns
returns g c =
    alike _ _ _ _ (ap (λ s. codes "(" ++ slots_text (texts_of c.args.texts.now) s ++ codes ")") c.slots-slots.ensures.value) (then _ _ _ _ _ (then _ _ _ _ _ c.put.ensures c.put_slots.ensures) c.put-2.ensures)
