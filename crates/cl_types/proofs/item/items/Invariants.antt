use Rattle.std.proofs.Common.{map}
use Rattle.cl_types.specs.Items.{item_walked}
use Rattle.cl_types.proofs.Walking.{Walking}
use Rattle.cl_types.proofs.item.items.Given as goal

abbrev pub invariant-loop-part : goal.invariant-loop-part
invariant-loop-part l = Walking (map item_walked l.parts) l.part-index l.initial.scopes l.initial.journal l.scopes l.journal
