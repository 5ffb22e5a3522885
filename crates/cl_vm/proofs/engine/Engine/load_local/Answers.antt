use Rattle.std.proofs.Common.{rules}
use Rattle.cl_code.specs.Machine.{Local}
use Rattle.cl_vm.proofs.Acts.{load_acts}
use Rattle.cl_vm.proofs.engine.Engine.load_local.Goals as goal

pub returns : goal.returns
returns c = load_acts Local c.args.k c.local-n.result c.args.self.now (record c.args.self.now { memory = c.push.new.self }) c.local-n.ensures (search rules)
