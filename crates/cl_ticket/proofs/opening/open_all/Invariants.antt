use Rattle.std.proofs.Common.{◌≡◌, vec_len, []}
use Rattle.std.specs.Prelude.{vec_capacity}
use Rattle.cl_ticket.specs.Rule.{opening_view}
use Rattle.cl_ticket.specs.Tokens.{new_set_tokens}
use Rattle.cl_ticket.proofs.opening.open_all.Given as goal

abbrev pub invariant-loop-number : goal.invariant-loop-number
invariant-loop-number g l = record {
  count : vec_len l.seats ≡ l.number;
  room : vec_capacity l.seats ≡ vec_capacity l.initial.seats;
  opener : l.opener.me ≡ (opening_view l.number, []);
  table : l.opener.table_id ≡ l.initial.opener.table_id;
  tokens : l.seats.items ≡ new_set_tokens l.number;
}
