use Rattle.std.proofs.Common.{◌≡◌, ◌++◌, map, []}
use Rattle.std.specs.Vec.Iter.{into_iter_items}
use Rattle.cl_ticket.specs.Steps.{end_view}
use Rattle.cl_ticket.proofs.closing.take_all.Given as goal

abbrev pub invariant-loop-set : goal.invariant-loop-set
invariant-loop-set g l = record {
  whole : l.yielded ++ into_iter_items l.set-iterator ≡ into_iter_items l.initial.set-iterator;
  table : l.main.table_id ≡ l.initial.main.table_id;
  view : l.main.me ≡ (end_view l.initial.main.me.0.participants (map (λ s. s.history) l.yielded), []);
}
