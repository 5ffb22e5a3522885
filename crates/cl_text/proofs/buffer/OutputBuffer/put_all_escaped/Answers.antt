use Rattle.std.proofs.Common.{drop, get_or, ◌+◌, ap, arith}
use Rattle.std.proofs.lemmas.List.{at_drop_more, drop_all}
use Rattle.cl_value.specs.Text.{escaped, escaped_all}
use Rattle.cl_text.proofs.Stages.{at_first, more, at_last}
use Rattle.cl_text.proofs.buffer.OutputBuffer.put_all_escaped.Goals as goal

pub loop-byte-init : goal.loop-byte-init
loop-byte-init g c = at_first _ _

pub loop-byte-preserved : goal.loop-byte-preserved
loop-byte-preserved g c =
    let i = c.loop-byte.byte-index in
    let bytes = c.args.bytes.now in
    more _ (escaped (get_or bytes i 0)) (escaped_all (drop (i + 1) bytes)) _ _ _ _ (at_drop_more escaped_all bytes i 0 (omega arith)) c.loop-byte.invariant c.put_escaped.ensures

pub returns : goal.returns
returns g c =
    at_last _ _ _ _ (ap escaped_all (drop_all c.loop-byte.byte-index c.args.bytes.now (omega arith))) c.loop-byte.invariant
