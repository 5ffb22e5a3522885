use Rattle.std.proofs.Common.{refl, arith}
use Rattle.cl_types.specs.Items.{item_walked}
use Rattle.cl_types.proofs.Walking.{walk_begins, walk_next, walk_done}
use Rattle.cl_types.proofs.item.items.Goals as goal

pub loop-part-init : goal.loop-part-init
loop-part-init c = walk_begins _ _ _

pub loop-part-preserved : goal.loop-part-preserved
loop-part-preserved c =
    walk_next item_walked c.args.parts.now c.loop-part.part-index c.part-item.result c.args.scopes.now c.args.journal.now c.loop-part.scopes c.loop-part.journal
    c.item.new.scopes c.item.new.journal c.loop-part.invariant (omega arith) c.part-item.is c.in_ok-item.ensures.does c.in_ok-item.ensures.keeps

pub returns : goal.returns
returns c = walk_done item_walked c.args.parts.now c.args.parts.now c.loop-part.part-index c.args.scopes.now c.args.journal.now c.loop-part.scopes c.loop-part.journal refl c.loop-part.invariant c.loop-part-test.false
