use Rattle.cl_meaning.specs.Calls.{arguments}
use Rattle.cl_walk.proofs.Arguments.{Taking}
use Rattle.cl_walk.proofs.call.live_arguments.Given as goal

abbrev pub invariant-loop-i : goal.invariant-loop-i
invariant-loop-i l = Taking arguments l.parameters l.values l.i l.all.items
