use Rattle.std.proofs.Common.{◌≡◌, true, map}
use Rattle.cl_sig.specs.Classes.{members, is_fixed}
use Rattle.cl_sig.specs.Fields.{all_below}
use Rattle.cl_sig.specs.Views.{plain_signature}
use Rattle.cl_usage.proofs.class.all_fixed.Given as goal

abbrev pub invariant-loop-field : goal.invariant-loop-field
invariant-loop-field l = all_below l.field (is_fixed (members (map plain_signature l.sites) l.numbers l.set)) ≡ true
