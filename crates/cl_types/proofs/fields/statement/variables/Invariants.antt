use Rattle.cl_types.specs.Walks.{Keeps}
use Rattle.cl_types.specs.Found.{declarator_forms, variable_behind}
use Rattle.cl_types.specs.Findings.{seen}
use Rattle.cl_types.proofs.Onward.{Onwards}
use Rattle.cl_types.proofs.fields.statement.variables.Given as goal

abbrev pub invariant-loop-next : goal.invariant-loop-next
invariant-loop-next l = Onwards declarator_forms (variable_behind l.part.type_name) l.next-items l.next-index l.initial.scopes (seen l.initial.sites) l.scopes (seen l.sites) × Keeps l.initial.scopes l.scopes
