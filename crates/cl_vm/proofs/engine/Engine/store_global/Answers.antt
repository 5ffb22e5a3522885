use Rattle.std.proofs.Common.{rules}
use Rattle.cl_code.specs.Machine.{Global}
use Rattle.cl_vm.proofs.Acts.{store_acts}
use Rattle.cl_vm.proofs.engine.Engine.store_global.Goals as goal

pub returns : goal.returns
returns c = store_acts Global c.args.k c.one-n.result c.args.self.now c.one-n.new.self (record c.one-n.new.self { memory = c.set_global.new.self }) c.one-n.ensures.numbers (search rules) (search rules)
