use Rattle.std.proofs.Common.{List, [], ◌∷◌, ap, sym, subst, arith, length, length-append}
use Rattle.cl_ground.specs.Room.{Room}
use Rattle.cl_value.specs.declared.value.Value.{Value}
use Rattle.cl_vm.specs.Parts.{AreWide}
use Rattle.cl_vm.proofs.PartFilling.{wide_append}
use Rattle.cl_vm.proofs.requests.lists.Goals as goal

pub loop-preserved : goal.loop-preserved
loop-preserved c =
    let long = ap (λ (ls : List (Room Value)). length ls) c.push.ensures.items in
    let more = length-append c.loop.all.items (c.reserve-in-loop.new.self ∷ []) in
    let invariant = c.loop.invariant in
    record {
      count = omega (arith, long, more, invariant.count);
      room = omega (arith, long, more, invariant.room, c.push.ensures.spare);
      wide = subst (AreWide c.args.widest) (sym c.push.ensures.items) (wide_append c.args.widest c.loop.all.items (c.reserve-in-loop.new.self ∷ []) invariant.wide (omega (arith, c.in_ok-reserve-2.ensures.spare), tt));
    }
