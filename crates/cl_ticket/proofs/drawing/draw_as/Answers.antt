use Rattle.std.proofs.Common.{arith}
use Rattle.cl_ticket.specs.Steps.{set_in, participant_in, others_in}
use Rattle.cl_ticket.proofs.Moves.{draws_as, whole}
use Rattle.cl_ticket.proofs.drawing.draw_as.Goals as goal

pub fetch_add-requires : goal.fetch_add-requires
fetch_add-requires g c =
    let w = c.args.tickets.now.words in
    let me = c.args.seat.now.me in
    let v = me.0 in (
      c.requires.table,
      omega arith,
      draws_as c.args.tickets.now.table.shared.table_id.slots c.args.seat.now.id g.W.DrawnAct.site g.W.DrawnAct.what me (set_in v.sets) (participant_in v.participants) (others_in v.participants) v.unborn
          (whole me c.requires.view.0 c.requires.view.1 c.requires.view.2) c.requires.room,
    )
