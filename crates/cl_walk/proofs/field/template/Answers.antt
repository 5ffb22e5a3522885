use Rattle.std.proofs.Common.{take}
use Rattle.cl_walk.proofs.Fields.{slots_stand}
use Rattle.cl_walk.proofs.field.template.Goals as goal

pub new-requires-clause-stand : goal.new-requires-clause-stand
new-requires-clause-stand c = rw c.loop-aim.invariant (slots_stand (take c.loop-aim.aim-index c.args.aims.now))
