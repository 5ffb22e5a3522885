use Rattle.std.proofs.Common.{rules, refl}
use Rattle.cl_vm.proofs.Acts.{jump_zero_goes, jump_zero_stays}
use Rattle.cl_vm.proofs.engine.Engine.jump_zero.Goals as goal

pub returns-then-x-eq0 : goal.returns-then-x-eq0
returns-then-x-eq0 c = jump_zero_goes c.args.to c.args.self.now c.one-x.new.self (record c.one-x.new.self { place = c.args.to }) (search rules) refl

pub returns-else-x-eq0 : goal.returns-else-x-eq0
returns-else-x-eq0 c = jump_zero_stays c.args.to c.one-x.result c.args.self.now c.one-x.new.self c.one-x.ensures.numbers (search rules)
