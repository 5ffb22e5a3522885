use Rattle.std.proofs.Common.{◌≡◌, None, map}
use Rattle.cl_sig.specs.Classes.{members, is_key}
use Rattle.cl_sig.specs.Fields.{first_below}
use Rattle.cl_sig.specs.Views.{plain_signature}
use Rattle.cl_usage.proofs.class.first_key.Given as goal

abbrev pub invariant-loop-field : goal.invariant-loop-field
invariant-loop-field l = first_below l.field (is_key (members (map plain_signature l.sites) l.numbers l.set)) ≡ None
