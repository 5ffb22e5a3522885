use Rattle.std.proofs.Common.{rules}
use Rattle.cl_vm.proofs.Acts.{two_acts}
use Rattle.cl_vm.proofs.engine.Engine.add_long.Goals as goal

pub returns : goal.returns
returns c = two_acts _ c.args.self.now c.two-x.new.self c.two-x.result.0 c.two-x.result.1 c.long_sum.result c.give.result c.give.new.self c.two-x.ensures.numbers (search rules) c.give.ensures
