use Rattle.std.proofs.Common.{arith, sym, ◌∙◌}
use Rattle.cl_ticket.proofs.Halts.{sights_as, whole-process}
use Rattle.cl_ticket.proofs.halting.see_halt.Goals as goal

pub load-found-requires : goal.load-found-requires
load-found-requires g c =
    let w = c.args.tickets.now.words in
    let me = c.seat.inside.seat.me in
    (c.seat.invariant.here ∙ sym c.args.tickets.now.here, omega arith, sights_as c.args.tickets.now.table.shared.table_id.slots c.seat.inside.seat.id me (whole-process me c.seat.invariant.view c.seat.invariant.slots))
