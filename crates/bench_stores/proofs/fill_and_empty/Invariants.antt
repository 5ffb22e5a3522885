use Rattle.std.proofs.Common.{◌≡◌, ◌≤◌, All}
use Rattle.cl_ground.specs.Room.{HasRoom}
use Rattle.bench_stores.proofs.fill_and_empty.Given as goal

abbrev pub invariant-filling : goal.invariant-filling
invariant-filling g l =
    record {
      same : All (λ t. t ≡ l.tuple.items) (g.S.TupleStore.content l.store);
      admits : g.S.TupleStore.admits l.store ≡ g.S.TupleStore.admits l.fn.store;
      fits : g.S.TupleStore.fits l.store ≡ g.S.TupleStore.fits l.fn.store;
    }

abbrev pub invariant-emptying : goal.invariant-emptying
invariant-emptying g l =
    record {
      same : All (λ t. t ≡ l.tuple.items) (g.S.TupleStore.content l.store);
      fits : g.S.TupleStore.fits l.store ≡ g.S.TupleStore.fits l.fn.store;
      room : HasRoom 16 l.into;
      hits : l.hits ≤ l._round;
    }
