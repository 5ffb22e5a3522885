use Rattle.std.proofs.Common.{◌≡◌, true, map}
use Rattle.std.specs.Prelude.{◌||◌}
use Rattle.cl_sig.specs.Classes.{members, is_fixed, is_received}
use Rattle.cl_sig.specs.Fields.{all_below}
use Rattle.cl_sig.specs.Views.{plain_signature}
use Rattle.cl_usage.proofs.class.all_fixed_or_received.Given as goal

abbrev pub invariant-loop-field : goal.invariant-loop-field
invariant-loop-field l =
    let all = members (map plain_signature l.sites) l.numbers l.set in
    all_below l.field (λ f. is_fixed all f || is_received all f) ≡ true
