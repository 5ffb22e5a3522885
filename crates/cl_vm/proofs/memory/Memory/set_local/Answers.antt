use Rattle.std.proofs.Common.{◌∙◌, ap, w64}
use Rattle.std.proofs.lemmas.Int.{to_z-of_z}
use Rattle.cl_vm.specs.Memory.{with_local}
use Rattle.cl_vm.proofs.Lists.{local_set}
use Rattle.cl_vm.proofs.memory.Memory.set_local.Goals as goal

pub returns : goal.returns
returns c = rw (to_z-of_z w64 c.args.n c.ranges.n) (local_set c.self.inside c.args.k c.args.n c.self.invariant ∙ ap (with_local c.args.k c.args.n) c.self.view_is)
