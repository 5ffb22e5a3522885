use Rattle.std.proofs.Common.{rules}
use Rattle.cl_code.specs.Machine.{Global}
use Rattle.cl_vm.proofs.Acts.{load_acts}
use Rattle.cl_vm.proofs.engine.Engine.load_global.Goals as goal

pub returns : goal.returns
returns c = load_acts Global c.args.k c.global-n.result c.args.self.now (record c.args.self.now { memory = c.push.new.self }) c.global-n.ensures (search rules)
