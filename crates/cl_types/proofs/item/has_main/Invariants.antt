use Rattle.std.proofs.Common.{◌≡◌, drop}
use Rattle.cl_types.specs.Items.{has_main}
use Rattle.cl_types.proofs.item.has_main.Given as goal

abbrev pub invariant-loop-part : goal.invariant-loop-part
invariant-loop-part l = has_main (drop l.part-index l.parts) ≡ has_main l.parts
