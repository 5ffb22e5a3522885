use Rattle.std.proofs.Common.{arith, sym, ◌∙◌}
use Rattle.cl_ticket.proofs.Moves.{enters_as}
use Rattle.cl_ticket.proofs.guests.enter.Goals as goal

pub join_seat-requires : goal.join_seat-requires
join_seat-requires g c =
    let w = c.args.tickets.now.words in
    let here = sym c.args.tickets.now.here in
    (c.set.invariant.here ∙ here, c.guest.invariant.here ∙ here, c.guest.invariant.slots, omega arith, enters_as c.set.inside.seat.id c.guest.inside.seat.id c.set.inside.seat.me.0 c.guest.inside.seat.me.0)
