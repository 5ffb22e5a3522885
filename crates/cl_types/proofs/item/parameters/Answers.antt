use Rattle.std.proofs.Common.{refl, arith}
use Rattle.cl_types.specs.Items.{parameter_walked}
use Rattle.cl_types.proofs.Walking.{walk_begins, walk_next, walk_done}
use Rattle.cl_types.proofs.item.parameters.Goals as goal

pub loop-part-init : goal.loop-part-init
loop-part-init c = walk_begins _ _ _

pub loop-part-preserved : goal.loop-part-preserved
loop-part-preserved c =
    walk_next parameter_walked c.args.parts.now c.loop-part.part-index c.part-item.result c.args.scopes.now c.args.journal.now c.loop-part.scopes c.loop-part.journal
    c.parameter.new.scopes c.parameter.new.journal c.loop-part.invariant (omega arith) c.part-item.is c.in_ok-parameter.ensures.does c.in_ok-parameter.ensures.keeps

pub returns-clause-does : goal.returns-clause-does
returns-clause-does c = walk_done parameter_walked c.args.parts.now c.args.parts.now c.loop-part.part-index c.args.scopes.now c.args.journal.now c.loop-part.scopes c.loop-part.journal refl c.loop-part.invariant c.loop-part-test.false

pub returns-clause-keeps : goal.returns-clause-keeps
returns-clause-keeps c = c.loop-part.invariant.keeps
