use Rattle.cl_types.specs.Found.{spanned_forms}
use Rattle.cl_types.specs.Findings.{seen}
use Rattle.cl_types.proofs.Gathering.{Gathers}
use Rattle.cl_types.proofs.fields.statement.printed.Given as goal

abbrev pub invariant-loop-part : goal.invariant-loop-part
invariant-loop-part l = Gathers spanned_forms l.parts l.part-index l.scopes (seen l.initial.sites) (seen l.sites)
