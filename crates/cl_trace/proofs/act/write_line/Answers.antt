use Rattle.std.proofs.Common.{[], ◌++◌, append-nil}
use Rattle.cl_value.specs.Views.{plain_act}
use Rattle.cl_text.specs.Tables.{texts_of}
use Rattle.cl_text.proofs.Stages.{then, alike, finished}
use Rattle.cl_trace.specs.Lines.{act_line}
use Rattle.cl_trace.proofs.act.write_line.Goals as goal

pub returns-in-Ok : goal.returns-in-Ok
returns-in-Ok c =
    let text = act_line (texts_of c.args.texts.now) (plain_act c.args.act.now) in
    let puts = alike (text ++ []) text _ _ (append-nil text) (then _ _ _ _ _ c.put_act.ensures c.in-Ok.ensures.puts) in
    let all = finished text _ _ c.without_room-buffer.ensures.failed c.in-Ok.ensures.failed c.without_room-buffer.ensures.pending c.in-Ok.ensures.empty puts in
    cc all.all
