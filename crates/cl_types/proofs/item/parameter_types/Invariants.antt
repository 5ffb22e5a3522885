use Rattle.std.proofs.Common.{◌≡◌, ◌++◌, drop}
use Rattle.cl_types.specs.Items.{parameter_types}
use Rattle.cl_types.proofs.item.parameter_types.Given as goal

abbrev pub invariant-loop-part : goal.invariant-loop-part
invariant-loop-part l = l.types ++ parameter_types (drop l.part-index l.parts) ≡ parameter_types l.parts
