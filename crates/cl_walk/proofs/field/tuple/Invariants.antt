use Rattle.std.proofs.Common.{◌≡◌, ◌++◌, drop}
use Rattle.cl_meaning.specs.Operations as meaning
use Rattle.cl_walk.specs.Views.{aims_of}
use Rattle.cl_walk.proofs.field.tuple.Given as goal

abbrev pub invariant-loop-aim : goal.invariant-loop-aim
invariant-loop-aim l = l.values.items ++ meaning.values_of (aims_of (drop l.aim-index l.aims)) ≡ meaning.values_of (aims_of l.aims)
