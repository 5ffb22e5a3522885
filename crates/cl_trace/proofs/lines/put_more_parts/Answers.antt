use Rattle.std.proofs.Common.{ap, arith, List}
use Rattle.std.specs.Prelude.{map}
use Rattle.std.proofs.lemmas.List.{drop_all}
use Rattle.cl_value.specs.LiveViews.{plain_part}
use Rattle.cl_value.specs.declared.live.LiveField.{LiveField}
use Rattle.cl_text.specs.Tables.{texts_of}
use Rattle.cl_text.proofs.Stages.{at_first, more, at_last, next_of}
use Rattle.cl_trace.specs.Lines.{more_parts_text}
use Rattle.cl_trace.proofs.lines.put_more_parts.Goals as goal

pub loop-part-init : goal.loop-part-init
loop-part-init g c = at_first _ _

pub loop-part-preserved : goal.loop-part-preserved
loop-part-preserved g c =
    let texts = texts_of c.args.texts.now in
    let f = λ (ps : List LiveField). more_parts_text texts (map plain_part ps) in
    more _ _ _ _ _ _ _ (next_of f c.args.parts.now c.loop-part.part-index c.part-item.result c.part-item.is (omega arith)) c.loop-part.invariant c.put_next_part.ensures

pub returns : goal.returns
returns g c =
    at_last _ _ _ _ (ap (λ (ps : List LiveField). more_parts_text (texts_of c.args.texts.now) (map plain_part ps)) (drop_all c.loop-part.part-index c.args.parts.now (omega arith))) c.loop-part.invariant
