use Rattle.std.proofs.Common.{take, nat_eq, []}
use Rattle.std.specs.Cmp.Lexicographic.{pointwise}
use Rattle.indexmap.specs.IndexMap.{get}
use Rattle.cl_meaning.specs.Outer.{functions_of}
use Rattle.cl_walk.specs.Callables.{AreListed}
use Rattle.cl_walk.proofs.program.add_items.Given as goal

abbrev pub invariant-loop-item : goal.invariant-loop-item
invariant-loop-item l = AreListed l.scope [] l.initial.functions.items (get (λ a b. pointwise nat_eq a.now b.now) l.initial.places) → AreListed l.scope (functions_of (take l.item-index l.items)) l.functions.items (get (λ a b. pointwise nat_eq a.now b.now) l.places)
