use Rattle.std.proofs.Common.{◌≡◌, drop}
use Rattle.cl_types.specs.Journals.{noted_all}
use Rattle.cl_types.specs.Statements.{arguments_notes}
use Rattle.cl_types.proofs.statement.arguments.Given as goal

abbrev pub invariant-loop-i : goal.invariant-loop-i
invariant-loop-i l = noted_all (arguments_notes l.scopes (drop l.i l.directives) (drop l.i l.parts)) l.journal ≡ noted_all (arguments_notes l.scopes l.directives l.parts) l.initial.journal
