use Rattle.std.proofs.Common.{[]}
use Rattle.cl_types.specs.Items.{known_first}
use Rattle.cl_types.specs.Found.{item_forms, item_behind}
use Rattle.cl_types.specs.Findings.{seen}
use Rattle.cl_types.proofs.Onward.{Onwards}
use Rattle.cl_types.proofs.fields.item.sites.Given as goal

abbrev pub invariant-loop-part : goal.invariant-loop-part
invariant-loop-part l = Onwards item_forms item_behind l.parts l.part-index (known_first l.parts) [] l.scopes (seen l.sites)
