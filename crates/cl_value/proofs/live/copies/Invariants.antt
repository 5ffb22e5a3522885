use Rattle.std.proofs.Common.{◌≡◌, ◌≤◌, ◌+◌, length, take}
use Rattle.std.specs.Prelude.{map}
use Rattle.cl_value.specs.LiveViews.{plain_part}
use Rattle.cl_value.proofs.live.copies.Given as goal

abbrev pub invariant-loop-field : goal.invariant-loop-field
invariant-loop-field l =
    record {
      copied : map plain_part l.all.items ≡ map plain_part (take l.field-index l.fields);
      count : length l.all.items ≡ l.field-index;
      room : length l.fields ≤ l.all.spare + l.field-index;
    }
