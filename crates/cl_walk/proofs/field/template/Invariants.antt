use Rattle.std.proofs.Common.{◌≡◌, map, take}
use Rattle.cl_meaning.specs.Operations as meaning
use Rattle.cl_walk.specs.Views.{aims_of}
use Rattle.cl_walk.proofs.field.template.Given as goal

abbrev pub invariant-loop-aim : goal.invariant-loop-aim
invariant-loop-aim l = l.slots.items ≡ map meaning.slot (aims_of (take l.aim-index l.aims))
