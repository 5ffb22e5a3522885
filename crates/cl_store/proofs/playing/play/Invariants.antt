use Rattle.std.proofs.Common.{◌≡◌, ◌+◌, ◌≤◌, ◌++◌, length, map, drop, All, Contains}
use Rattle.cl_value.specs.Views.{plain_ask, plain_what}
use Rattle.cl_store.specs.Answers.{answers, left_after, tuples_of}
use Rattle.cl_store.proofs.playing.play.Given as goal

abbrev pub invariant-loop-ask : goal.invariant-loop-ask
invariant-loop-ask g l =
    let content = g.S.TupleStore.content in
    record {
      answered : answers (content l.fn.store) (map plain_ask l.asks.items) ≡ map plain_what l.done.items ++ answers (content l.store) (drop l.ask-index (map plain_ask l.asks.items));
      left : content l.store ≡ left_after (content l.fn.store) (map plain_what l.done.items);
      count : length l.done.items ≡ l.ask-index;
      room : length l.asks.items ≤ l.done.spare + l.ask-index;
      pool : All (Contains (content l.fn.store ++ tuples_of (map plain_ask l.asks.items))) (content l.store);
      admits : g.S.TupleStore.admits l.store ≡ g.S.TupleStore.admits l.fn.store;
      fits : g.S.TupleStore.fits l.store ≡ g.S.TupleStore.fits l.fn.store;
    }
