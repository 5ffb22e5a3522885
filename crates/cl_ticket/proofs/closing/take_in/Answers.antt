use Rattle.std.proofs.Common.{arith, sym, ◌∙◌}
use Rattle.cl_ticket.proofs.Moves.{enters_as}
use Rattle.cl_ticket.proofs.closing.take_in.Goals as goal

pub join_seat-requires : goal.join_seat-requires
join_seat-requires g c =
    let w = c.args.tickets.now.words in
    (c.requires.table, c.set.invariant.here ∙ sym c.args.tickets.now.here, c.set.invariant.slots, omega arith, enters_as c.args.main.now.id c.set.inside.seat.id c.args.main.now.me.0 c.set.inside.seat.me.0)
