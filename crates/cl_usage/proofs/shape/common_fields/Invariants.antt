use Rattle.std.proofs.Common.{◌≡◌, ◌≤◌, ◌+◌, length, take, map}
use Rattle.cl_sig.specs.Classes.{members}
use Rattle.cl_sig.specs.Shapes.{common_from}
use Rattle.cl_sig.specs.Views.{plain_signature}
use Rattle.cl_usage.proofs.shape.common_fields.Given as goal

abbrev pub invariant-loop-field : goal.invariant-loop-field
invariant-loop-field l =
    record {
      made : l.fields.items ≡ common_from 0 (take l.field l.marks) (members (map plain_signature l.sites) l.numbers l.set);
      room : length l.marks ≤ l.fields.spare + l.field;
    }
