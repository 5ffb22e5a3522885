use Rattle.std.proofs.Common.{rules}
use Rattle.cl_vm.proofs.Acts.{clear_acts}
use Rattle.cl_vm.proofs.engine.Engine.clear.Goals as goal

pub returns : goal.returns
returns c = clear_acts c.args.base c.args.count c.args.self.now (record c.args.self.now { memory = c.clear.new.self }) c.requires (search rules)
