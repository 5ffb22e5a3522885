use Rattle.std.proofs.Common.{◌≡◌, ◌+◌, ◌≤◌, length, vec_len}
use Rattle.cl_ticket.specs.Tokens.{HasGuest}
use Rattle.bench_tickets.proofs.Lane.draw_all.Given as goal

abbrev pub invariant-loop-site : goal.invariant-loop-site
invariant-loop-site g l = record {
  guest : HasGuest l.set;
  room : length l.set.history.acts ≤ 3 + l.site;
  count : vec_len l.drawn ≡ l.site;
}
