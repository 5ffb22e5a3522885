use Rattle.std.proofs.Common.{subst, nat_eq, take, arith}
use Rattle.std.specs.Cmp.Lexicographic.{pointwise}
use Rattle.indexmap.specs.IndexMap.{get}
use Rattle.cl_meaning.specs.Outer.{functions_of}
use Rattle.cl_walk.specs.Callables.{AreListed}
use Rattle.cl_walk.proofs.GroundCallables.{functions_more, functions_all}
use Rattle.cl_walk.proofs.program.add_items.Goals as goal

pub loop-item-preserved : goal.loop-item-preserved
loop-item-preserved c none =
    let xs = c.args.items.now in
    let i = c.loop-item.item-index in
    subst (λ fs. AreListed c.args.scope.now fs c.add_item.new.functions.items (get (λ a b. pointwise nat_eq a.now b.now) c.add_item.new.places)) (functions_more xs i c.item-item.result (omega arith) c.item-item.is)
    (c.in_ok-add_item.ensures (functions_of (take i xs)) (c.loop-item.invariant none))

pub returns : goal.returns
returns c none =
    subst (λ fs. AreListed c.args.scope.now fs c.loop-item.functions.items (get (λ a b. pointwise nat_eq a.now b.now) c.loop-item.places)) (functions_all c.args.items.now c.loop-item.item-index c.loop-item-test.false)
    (c.loop-item.invariant none)
