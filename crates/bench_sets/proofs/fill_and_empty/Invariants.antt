use Rattle.std.proofs.Common.{◌≡◌, ◌+◌, ◌≤◌, None}
use Rattle.cl_value.specs.Tickets.{IsAbove}
use Rattle.bench_sets.proofs.fill_and_empty.Given as goal

abbrev pub invariant-filling : goal.invariant-filling
invariant-filling g l =
    record {
      idle : l.set.begun ≡ None;
      shape : l.set.shape ≡ l.fn.set.shape;
      above : IsAbove l.round l.set.acts;
    }

abbrev pub invariant-emptying : goal.invariant-emptying
invariant-emptying g l =
    record {
      idle : l.set.begun ≡ None;
      shape : l.set.shape ≡ l.fn.set.shape;
      above : IsAbove (l.count + l.round) l.set.acts;
      hits : l.hits ≤ l.round;
    }
