use Rattle.std.proofs.Common.{rules}
use Rattle.cl_vm.proofs.Acts.{push_acts}
use Rattle.cl_vm.proofs.engine.Engine.push_number.Goals as goal

pub returns : goal.returns
returns c = push_acts c.args.n c.args.self.now (record c.args.self.now { memory = c.push.new.self }) (search rules)
