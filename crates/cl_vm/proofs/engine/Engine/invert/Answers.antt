use Rattle.std.proofs.Common.{rules, refl}
use Rattle.std.specs.Prelude.{Ok}
use Rattle.cl_code.specs.Arithmetic.{truth, is_zero}
use Rattle.cl_vm.proofs.Acts.{one_acts}
use Rattle.cl_vm.proofs.engine.Engine.invert.Goals as goal

pub returns : goal.returns
returns c = one_acts _ c.args.self.now c.one-x.new.self c.one-x.result (Ok (truth (is_zero c.one-x.result))) c.tell.result c.tell.new.self c.one-x.ensures.numbers refl (search rules)
