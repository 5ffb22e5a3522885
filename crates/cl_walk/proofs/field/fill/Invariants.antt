use Rattle.cl_walk.specs.Walks.{Said, point}
use Rattle.cl_walk.proofs.Fields.{Filling}
use Rattle.cl_walk.proofs.field.fill.Given as goal

abbrev pub invariant-loop-i : goal.invariant-loop-i
invariant-loop-i l = (said : Said) → Filling l.aims l.values l.i (point l.initial.state said) (point l.state said)
