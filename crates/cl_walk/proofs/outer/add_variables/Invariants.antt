use Rattle.cl_walk.proofs.GroundOuter.{GlobalsLead}
use Rattle.cl_walk.proofs.outer.add_variables.Given as goal

abbrev pub invariant-loop-declarator : goal.invariant-loop-declarator
invariant-loop-declarator l = GlobalsLead l.of l.declarators l.declarator-index l.initial.scope l.scope
