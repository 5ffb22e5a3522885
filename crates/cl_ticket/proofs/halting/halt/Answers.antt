use Rattle.std.proofs.Common.{◌≡◌, ◌+◌, suc, arith, sym, ◌∙◌}
use Rattle.cl_ticket.specs.Rule.{name_of}
use Rattle.cl_ticket.specs.Steps.{participant_in}
use Rattle.cl_ticket.proofs.Halts.{halts_as, whole-process}
use Rattle.cl_ticket.proofs.halting.halt.Goals as goal

pub compare_exchange-found-requires : goal.compare_exchange-found-requires
compare_exchange-found-requires g c =
    let w = c.args.tickets.now.words in
    let me = c.seat.inside.seat.me in
    let named = c.seat.invariant.named in
    let name : c.seat.inside.name + 1 ≡ suc (name_of (participant_in me.0.participants).origin) = omega arith in
    (c.seat.invariant.here ∙ sym c.args.tickets.now.here, omega arith, halts_as c.args.tickets.now.table.shared.table_id.slots c.seat.inside.seat.id (c.seat.inside.name + 1) me (whole-process me c.seat.invariant.view c.seat.invariant.slots) name)
