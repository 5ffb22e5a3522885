use Rattle.std.proofs.Common.{map}
use Rattle.cl_types.specs.Statements.{declarator_walked}
use Rattle.cl_types.proofs.Walking.{Walking}
use Rattle.cl_types.proofs.declare.variables.Given as goal

abbrev pub invariant-loop-next : goal.invariant-loop-next
invariant-loop-next l = Walking (map (declarator_walked l.reach l.part.type_name) l.next-items) l.next-index l.initial.scopes l.initial.journal l.scopes l.journal
