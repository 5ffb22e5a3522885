use Rattle.std.proofs.Common.{refl}
use Rattle.cl_outside.specs.Ends.{written_of}
use Rattle.clinda.specs.Saying.{Part}
use Rattle.clinda.proofs.ending.say.Goals as goal

pub returns-in-Err-Fault : goal.returns-in-Err-Fault
returns-in-Err-Fault g c =
    let told = c.in-Err-Fault.ensures in
    Part (written_of c.in-Err-Fault.field-0) told.few refl told.part told.fault
