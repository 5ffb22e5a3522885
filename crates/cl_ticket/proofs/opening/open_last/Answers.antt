use Rattle.std.proofs.Common.{arith, ap}
use Rattle.cl_ticket.proofs.Moves.{opens_last_as}
use Rattle.cl_ticket.proofs.opening.open_last.Goals as goal

pub split_seat-seat-requires : goal.split_seat-seat-requires
split_seat-seat-requires g c = let w = c.args.tickets.now.words in (c.requires.table, omega arith, opens_last_as c.args.opener.id c.args.number c.args.opener.me.0 (ap (λ m. m.0) c.requires.view.0) c.requires.view.1)
