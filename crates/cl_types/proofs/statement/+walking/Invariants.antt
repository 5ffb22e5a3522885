use Rattle.std.proofs.Common.{map}
use Rattle.cl_types.specs.Statements.{in_context, walked}
use Rattle.cl_types.proofs.Walking.{Walking}
use Rattle.cl_types.proofs.statement.+walking.Given as goal

abbrev pub invariant-block-loop-i : goal.invariant-block-loop-i
invariant-block-loop-i l = Walking (map (λ y. in_context l.context (walked y)) l.parts) l.i l.initial.scopes l.initial.journal l.scopes l.journal
