use Rattle.std.proofs.Common.{refl, arith}
use Rattle.cl_types.specs.Found.{spanned_forms}
use Rattle.cl_types.specs.Findings.{seen}
use Rattle.cl_types.proofs.Gathering.{gathers_on, gathers_to}
use Rattle.cl_types.proofs.fields.statement.printed.Goals as goal

pub loop-part-init : goal.loop-part-init
loop-part-init c = refl

pub loop-part-preserved : goal.loop-part-preserved
loop-part-preserved c = gathers_on spanned_forms c.args.parts.now c.loop-part.part-index c.part-item.result c.args.scopes.now (seen c.args.sites.now) (seen c.loop-part.sites) _ c.loop-part.invariant (omega arith) c.part-item.is c.in_ok-expr.ensures

pub returns : goal.returns
returns c = gathers_to spanned_forms c.args.parts.now c.loop-part.part-index c.args.scopes.now (seen c.args.sites.now) (seen c.loop-part.sites) c.loop-part.invariant (omega arith)
