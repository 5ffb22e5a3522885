use Rattle.std.proofs.Common.{rules, refl}
use Rattle.std.specs.Prelude.{Ok, pos}
use Rattle.cl_model.specs.Numbers.{byte_of}
use Rattle.cl_vm.proofs.Acts.{one_acts}
use Rattle.cl_vm.proofs.engine.Engine.to_char.Goals as goal

pub returns : goal.returns
returns c = one_acts _ c.args.self.now c.one-x.new.self c.one-x.result (Ok (pos (byte_of c.one-x.result))) c.give.result c.give.new.self c.one-x.ensures.numbers refl (search rules)
