use Rattle.std.proofs.Common.{ap, arith, length, map, refl}
use Rattle.cl_ground.specs.Room.{Room}
use Rattle.cl_value.specs.declared.live.LiveField.{LiveField}
use Rattle.cl_code.specs.Plain.{plain_function}
use Rattle.cl_vm.proofs.Filling.{any}
use Rattle.cl_vm.proofs.PartFilling.{live_long}
use Rattle.cl_vm.proofs.requests.live_of.Goals as goal

pub new-requires-2-clause-some : goal.new-requires-2-clause-some
new-requires-2-clause-some c =
    let p = record any { functions = map plain_function c.args.functions.now } in
    let long = live_long p c.args.marks.now c.args.calls.now c.args.numbers.now c.add_parts.result c.in_ok-add_parts.field-0 c.args.fields.now.items c.add_parts.new.to.items c.requires.evaluated c.in_ok-add_parts.was c.requires.empty (c.add_parts.ensures.filled p refl) in
    let same = ap (λ (r : Room LiveField). length r.items) c.replace-all.ensures.value in
    omega (arith, long, same, c.requires.some)

pub new-requires-2-clause-few : goal.new-requires-2-clause-few
new-requires-2-clause-few c =
    let p = record any { functions = map plain_function c.args.functions.now } in
    let long = live_long p c.args.marks.now c.args.calls.now c.args.numbers.now c.add_parts.result c.in_ok-add_parts.field-0 c.args.fields.now.items c.add_parts.new.to.items c.requires.evaluated c.in_ok-add_parts.was c.requires.empty (c.add_parts.ensures.filled p refl) in
    let same = ap (λ (r : Room LiveField). length r.items) c.replace-all.ensures.value in
    omega (arith, long, same, c.requires.few)
