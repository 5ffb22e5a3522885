use Rattle.std.proofs.Common.{rules, refl}
use Rattle.std.specs.Prelude.{Ok}
use Rattle.std.specs.Ordering.{int_eq}
use Rattle.cl_code.specs.Arithmetic.{truth}
use Rattle.cl_vm.proofs.Acts.{two_acts}
use Rattle.cl_vm.proofs.engine.Engine.equal.Goals as goal

pub returns : goal.returns
returns c = two_acts _ c.args.self.now c.two-x.new.self c.two-x.result.0 c.two-x.result.1 (Ok (truth (int_eq c.two-x.result.0 c.two-x.result.1))) c.tell.result c.tell.new.self c.two-x.ensures.numbers refl (search rules)
