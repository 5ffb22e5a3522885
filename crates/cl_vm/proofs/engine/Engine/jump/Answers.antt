use Rattle.std.proofs.Common.{refl}
use Rattle.cl_vm.proofs.Acts.{jump_acts}
use Rattle.cl_vm.proofs.engine.Engine.jump.Goals as goal

pub returns : goal.returns
returns c = jump_acts c.args.to c.args.self.now (record c.args.self.now { place = c.args.to }) refl
