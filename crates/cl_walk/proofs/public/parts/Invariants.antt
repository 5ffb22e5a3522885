use Rattle.cl_value.specs.LiveViews.{plain_part}
use Rattle.cl_meaning.specs.Process.{part_does}
use Rattle.cl_walk.specs.Walks.{point}
use Rattle.cl_walk.proofs.Sequences.{Giving}
use Rattle.cl_walk.proofs.public.parts.Given as goal

abbrev pub invariant-loop-i : goal.invariant-loop-i
invariant-loop-i g l = Giving (λ field. part_does l.on.program.now.items l.on.depth (plain_part field)) l.fields (point l.initial.state (g.W.World.said l.initial.world)) l.values.items l.i (point l.state (g.W.World.said l.world))
