use Rattle.std.proofs.Common.{ap, arith, length}
use Rattle.cl_ground.specs.Room.{Room}
use Rattle.cl_value.specs.declared.value.Value.{Value}
use Rattle.cl_vm.proofs.Filling.{any, tuple_long}
use Rattle.cl_vm.proofs.requests.tuple_of.Goals as goal

pub new-requires-2-clause-some : goal.new-requires-2-clause-some
new-requires-2-clause-some c =
    let long = tuple_long c.args.marks.now c.args.numbers.now c.add_values.result c.in_ok-add_values.field-0 c.clear.new.self.items c.add_values.new.to.items c.requires.evaluated c.in_ok-add_values.was c.clear.ensures.items (c.add_values.ensures.filled any) in
    let same = ap (λ (r : Room Value). length r.items) c.replace-fields.ensures.value in
    omega (arith, long, same, c.requires.some)

pub new-requires-2-clause-few : goal.new-requires-2-clause-few
new-requires-2-clause-few c =
    let long = tuple_long c.args.marks.now c.args.numbers.now c.add_values.result c.in_ok-add_values.field-0 c.clear.new.self.items c.add_values.new.to.items c.requires.evaluated c.in_ok-add_values.was c.clear.ensures.items (c.add_values.ensures.filled any) in
    let same = ap (λ (r : Room Value). length r.items) c.replace-fields.ensures.value in
    omega (arith, long, same, c.requires.few)
