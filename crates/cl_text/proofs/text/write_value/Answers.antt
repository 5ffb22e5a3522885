use Rattle.std.proofs.Common.{append-nil}
use Rattle.cl_text.proofs.Stages.{then, alike, finished}
use Rattle.cl_text.proofs.text.write_value.Goals as goal

pub returns-in-Ok : goal.returns-in-Ok
returns-in-Ok c =
    let puts = alike _ _ _ _ (append-nil _) (then _ _ _ _ _ c.put_value.ensures c.in-Ok.ensures.puts) in
    let all = finished _ _ _ c.without_room-buffer.ensures.failed c.in-Ok.ensures.failed c.without_room-buffer.ensures.pending c.in-Ok.ensures.empty puts in
    cc all.all
