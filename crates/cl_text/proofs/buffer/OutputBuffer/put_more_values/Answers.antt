use Rattle.std.proofs.Common.{◌++◌, ap, arith, refl}
use Rattle.std.specs.Prelude.{codes}
use Rattle.std.proofs.lemmas.List.{drop_all}
use Rattle.cl_value.specs.Text.{value_text, more_values_text}
use Rattle.cl_text.specs.Tables.{texts_of}
use Rattle.cl_text.proofs.Stages.{at_first, item, at_last, then}
use Rattle.cl_text.proofs.buffer.OutputBuffer.put_more_values.Goals as goal

pub loop-value-init : goal.loop-value-init
loop-value-init g c = at_first _ _

pub loop-value-preserved : goal.loop-value-preserved
loop-value-preserved g c =
    let texts = texts_of c.args.texts.now in
    item (more_values_text texts) (λ v. codes "," ++ value_text texts v) c.args.values.now c.loop-value.value-index _ _ _ _ (λ v vs. refl) (omega arith) c.loop-value.invariant (then _ _ _ _ _ c.put.ensures c.put_value.ensures)

pub returns : goal.returns
returns g c =
    at_last _ _ _ _ (ap (more_values_text (texts_of c.args.texts.now)) (drop_all c.loop-value.value-index c.args.values.now (omega arith))) c.loop-value.invariant
