use Rattle.std.proofs.Common.{◌≡◌, take}
use Rattle.cl_ground.specs.Room.{capacity_of}
use Rattle.cl_value.proofs.tuple.Tuple.refill.Given as goal

abbrev pub invariant-loop-i : goal.invariant-loop-i
invariant-loop-i l =
    record {
      fields : l.self.items ≡ take l.i l.from.items;
      room : capacity_of l.self ≡ capacity_of l.fn.self;
    }
