use Rattle.std.proofs.Common.{◌∙◌, ap, arith, length}
use Rattle.std.specs.List.{list_all}
use Rattle.cl_value.specs.Matching.{may_stand}
use Rattle.cl_ground.specs.Room.{Room}
use Rattle.cl_value.specs.declared.template.Slot.{Slot}
use Rattle.cl_vm.proofs.Filling.{any, template_is}
use Rattle.cl_vm.proofs.requests.template_of.Goals as goal

pub new-requires-2-clause-some : goal.new-requires-2-clause-some
new-requires-2-clause-some c =
    let is = template_is c.args.marks.now c.args.numbers.now c.add_slots.result c.in_ok-add_slots.field-0 c.clear.new.self.items c.add_slots.new.to.items c.in_ok-add_slots.was c.clear.ensures.items (c.add_slots.ensures.filled any) in
    let same = ap (λ (r : Room Slot). length r.items) c.replace-fields.ensures.value in
    omega (arith, is.0, same, c.requires.some)

pub new-requires-2-clause-few : goal.new-requires-2-clause-few
new-requires-2-clause-few c =
    let is = template_is c.args.marks.now c.args.numbers.now c.add_slots.result c.in_ok-add_slots.field-0 c.clear.new.self.items c.add_slots.new.to.items c.in_ok-add_slots.was c.clear.ensures.items (c.add_slots.ensures.filled any) in
    let same = ap (λ (r : Room Slot). length r.items) c.replace-fields.ensures.value in
    omega (arith, is.0, same, c.requires.few)

pub new-requires-2-clause-stand : goal.new-requires-2-clause-stand
new-requires-2-clause-stand c =
    ap (λ (r : Room Slot). list_all may_stand r.items) c.replace-fields.ensures.value
    ∙ (template_is c.args.marks.now c.args.numbers.now c.add_slots.result c.in_ok-add_slots.field-0 c.clear.new.self.items c.add_slots.new.to.items c.in_ok-add_slots.was c.clear.ensures.items (c.add_slots.ensures.filled any)).1 c.requires.receivable
