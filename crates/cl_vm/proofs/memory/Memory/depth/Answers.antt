use Rattle.std.proofs.Common.{◌∙◌, ap, length}
use Rattle.cl_vm.specs.Memory.{Memory}
use Rattle.cl_vm.proofs.Lists.{depth_is}
use Rattle.cl_vm.proofs.memory.Memory.depth.Goals as goal

pub returns : goal.returns
returns c = c.len.ensures ∙ depth_is c.self.inside ∙ ap (λ (m : Memory). length m.frames) c.self.view_is
