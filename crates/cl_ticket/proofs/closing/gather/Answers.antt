use Rattle.std.proofs.Common.{arith, sym, ◌∙◌}
use Rattle.cl_ticket.proofs.Moves.{enters_as}
use Rattle.cl_ticket.proofs.closing.gather.Goals as goal

pub join_seat-requires : goal.join_seat-requires
join_seat-requires g c =
    let w = c.args.tickets.now.words in
    let here = sym c.args.tickets.now.here in
    (c.into.invariant.here ∙ here, c.ended.invariant.here ∙ here, c.ended.invariant.slots, omega arith, enters_as c.into.inside.seat.id c.ended.inside.seat.id c.into.inside.seat.me.0 c.ended.inside.seat.me.0)
