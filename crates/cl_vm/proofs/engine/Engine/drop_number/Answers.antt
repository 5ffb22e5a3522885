use Rattle.cl_vm.proofs.Acts.{drop_acts}
use Rattle.cl_vm.proofs.engine.Engine.drop_number.Goals as goal

pub returns : goal.returns
returns c = drop_acts c.one.result c.args.self.now c.one.new.self c.one.ensures.numbers
