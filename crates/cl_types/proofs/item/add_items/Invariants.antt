use Rattle.std.proofs.Common.{◌≡◌, drop}
use Rattle.cl_types.specs.Items.{with_known}
use Rattle.cl_types.proofs.item.add_items.Given as goal

abbrev pub invariant-loop-part : goal.invariant-loop-part
invariant-loop-part l = with_known (drop l.part-index l.parts) l.scopes ≡ with_known l.parts l.initial.scopes
