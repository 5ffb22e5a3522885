use Rattle.std.proofs.Common.{rules}
use Rattle.cl_vm.proofs.Acts.{one_acts}
use Rattle.cl_vm.proofs.engine.Engine.narrow.Goals as goal

pub returns : goal.returns
returns c = one_acts _ c.args.self.now c.one-x.new.self c.one-x.result c.as_int.result c.give.result c.give.new.self c.one-x.ensures.numbers (search rules) c.give.ensures
