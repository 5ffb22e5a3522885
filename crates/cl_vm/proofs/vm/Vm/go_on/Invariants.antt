use Rattle.std.proofs.Common.{◌≡◌, ◌-◌, List, length}
use Rattle.cl_value.specs.Plain.{PlainReply}
use Rattle.cl_code.specs.Plain.{plain_program}
use Rattle.cl_vm.specs.Processes.{IsHeld, SoundAt, came_of}
use Rattle.cl_vm.proofs.vm.Vm.go_on.Given as goal

abbrev pub invariant-fields : goal.invariant-fields
invariant-fields l = record {
  held : IsHeld (plain_program l.program) 1 l.self;
  sound : SoundAt (plain_program l.program) l.progress l.self;
  leads : (replies : List PlainReply) → came_of (plain_program l.program) l.initial.progress l.initial.self replies ≡ came_of (plain_program l.program) l.progress l.self replies;
  same : l.self.origin ≡ l.initial.self.origin;
}

abbrev pub decreases-fields : goal.decreases-fields
decreases-fields l = length l.self.fields.items - l.self.next
