use Rattle.std.proofs.Common.{arith}
use Rattle.cl_types.specs.Statements.{declarator_walked}
use Rattle.cl_types.proofs.Walking.{walk_begins, walk_next, walk_done}
use Rattle.cl_types.proofs.declare.variables.Goals as goal

pub loop-next-init : goal.loop-next-init
loop-next-init c = walk_begins _ _ _

pub loop-next-preserved : goal.loop-next-preserved
loop-next-preserved c =
    walk_next (declarator_walked c.args.reach c.args.part.now.type_name) c.as_slice-next-items.result.now c.loop-next.next-index c.next-item.result c.args.scopes.now c.args.journal.now c.loop-next.scopes c.loop-next.journal
    c.declarator.new.scopes c.declarator.new.journal c.loop-next.invariant (omega arith) c.next-item.is c.in_ok-declarator.ensures.does c.in_ok-declarator.ensures.keeps

pub returns-clause-does : goal.returns-clause-does
returns-clause-does c =
    walk_done (declarator_walked c.args.reach c.args.part.now.type_name) c.as_slice-next-items.result.now c.args.part.now.declarators c.loop-next.next-index c.args.scopes.now c.args.journal.now c.loop-next.scopes c.loop-next.journal
    c.as_slice-next-items.ensures c.loop-next.invariant c.loop-next-test.false

pub returns-clause-keeps : goal.returns-clause-keeps
returns-clause-keeps c = c.loop-next.invariant.keeps
