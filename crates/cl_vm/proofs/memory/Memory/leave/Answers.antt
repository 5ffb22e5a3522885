use Rattle.std.proofs.Common.{rules, subst, Some}
use Rattle.cl_vm.specs.Memory.{Memory}
use Rattle.cl_vm.specs.MemoryViews.{Left, memory_of}
use Rattle.cl_vm.proofs.Lists.{left_is, after_leave}
use Rattle.cl_vm.proofs.memory.Memory.leave.Goals as goal

pub returns-in-Some : goal.returns-in-Some
returns-in-Some c =
    subst (λ (m : Memory). Left m (Some c.in-Some.waiting) (memory_of (after_leave c.self.inside c.in-Some.waiting c.pop.new.self c.truncate.new.self c.truncate-in-Some.new.self))) c.self.view_is
    (left_is c.self.inside c.in-Some.waiting c.pop.new.self c.truncate.new.self c.truncate-in-Some.new.self c.self.invariant (search rules) (search rules) c.pop.ensures.capacity c.truncate.ensures.items c.truncate.ensures.len c.truncate.ensures.capacity c.truncate-in-Some.ensures.items c.truncate-in-Some.ensures.len c.truncate-in-Some.ensures.capacity)
