use Rattle.std.proofs.Common.{◌≡◌, ◌≤◌, List, Some, IsTrue}
use Rattle.cl_ground.specs.Room.{HasRoom}
use Rattle.cl_value.specs.declared.template.Slot.{Slot as Asked}
use Rattle.cl_value.specs.declared.value.Value.{Value as Field}
use Rattle.cl_keyed.specs.Keys.{key_at, has_actual}
use Rattle.cl_keyed.specs.declared.key.Key.{Key}
use Rattle.bench_stores.proofs.fill_and_empty_by_key.Given as goal

abbrev pub invariant-filling : goal.invariant-filling
invariant-filling g l =
    record {
      admits : (t : List Field) (k : Key) → key_at 1 t ≡ Some k → IsTrue (g.S.TupleStore.admits l.store t);
      fits : (ts : List (List Field)) (m : List Asked) → IsTrue (has_actual 1 m) → IsTrue (g.S.TupleStore.fits l.store ts m);
    }

abbrev pub invariant-emptying : goal.invariant-emptying
invariant-emptying g l =
    record {
      fits : (ts : List (List Field)) (m : List Asked) → IsTrue (has_actual 1 m) → IsTrue (g.S.TupleStore.fits l.store ts m);
      room : HasRoom 16 l.into;
      hits : l.hits ≤ l.round;
    }
