use Rattle.std.proofs.Common.{◌≡◌, ◌+◌, ◌++◌, take}
use Rattle.cl_ground.proofs.items.Items.push_all.Given as goal

abbrev pub invariant-loop-value : goal.invariant-loop-value
invariant-loop-value g l =
    record {
      pushed : l.self.items ≡ l.fn.self.items ++ take l.value-index l.values;
      room : l.self.spare + l.value-index ≡ l.fn.self.spare;
    }
