use Rattle.std.proofs.Common.{map}
use Rattle.cl_types.specs.Items.{parameter_walked}
use Rattle.cl_types.proofs.Walking.{Walking}
use Rattle.cl_types.proofs.item.parameters.Given as goal

abbrev pub invariant-loop-part : goal.invariant-loop-part
invariant-loop-part l = Walking (map parameter_walked l.parts) l.part-index l.initial.scopes l.initial.journal l.scopes l.journal
