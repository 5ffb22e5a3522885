use Rattle.cl_types.specs.Walks.{Keeps}
use Rattle.cl_types.specs.Found.{stmt_forms, known_behind}
use Rattle.cl_types.specs.Findings.{seen}
use Rattle.cl_types.proofs.Onward.{Onwards}
use Rattle.cl_types.proofs.fields.statement.+walking.Given as goal

abbrev pub invariant-block-loop-i : goal.invariant-block-loop-i
invariant-block-loop-i l = Onwards stmt_forms known_behind l.parts l.i l.initial.scopes (seen l.initial.sites) l.scopes (seen l.sites) × Keeps l.initial.scopes l.scopes
