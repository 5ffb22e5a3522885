use Rattle.std.proofs.Common.{refl, arith}
use Rattle.cl_walk.proofs.GroundOuter.{globals_lead_on, globals_lead_to}
use Rattle.cl_walk.proofs.outer.add_variables.Goals as goal

pub loop-declarator-init : goal.loop-declarator-init
loop-declarator-init c = refl

pub loop-declarator-preserved : goal.loop-declarator-preserved
loop-declarator-preserved c = globals_lead_on c.args.of c.args.declarators.now c.loop-declarator.declarator-index c.declarator-item.result c.args.scope.now c.loop-declarator.scope _ c.loop-declarator.invariant (omega arith) c.declarator-item.is c.in_ok-add_variable.ensures

pub returns : goal.returns
returns c = globals_lead_to c.args.of c.args.declarators.now c.loop-declarator.declarator-index c.args.scope.now c.loop-declarator.scope c.loop-declarator.invariant c.loop-declarator-test.false
