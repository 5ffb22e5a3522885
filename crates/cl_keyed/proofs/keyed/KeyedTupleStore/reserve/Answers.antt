use Rattle.std.proofs.Common.{◌<◌, ◌-◌, ◌^◌, arith}
use Rattle.cl_keyed.proofs.Keeps.{stands-kept, stands-ready}
use Rattle.cl_keyed.proofs.keyed.KeyedTupleStore.reserve.Goals as goal

pub invariant_of-self-in_err-place : goal.invariant_of-self-in_err-place
invariant_of-self-in_err-place c =
    let made = c.room_for.ensures in
    stands-kept c.self.inside.field c.self.inside.added c.self.inside.count c.self.inside.table c.room_for.new.table c.self.inside.fresh c.room_for.new.fresh c.self.inside.ready c.self.invariant made.content made.holds made.full made.fresh made.kept

pub invariant_of-self-in_err-make_room : goal.invariant_of-self-in_err-make_room
invariant_of-self-in_err-make_room c =
    let made = c.room_for.ensures in
    stands-kept c.self.inside.field c.self.inside.added c.self.inside.count c.self.inside.table c.room_for.new.table c.self.inside.fresh c.room_for.new.fresh c.self.inside.ready c.self.invariant made.content made.holds made.full made.fresh made.kept

pub invariant_of-self-2 : goal.invariant_of-self-2
invariant_of-self-2 c =
    let made = c.room_for.ensures in
    let below : c.self.inside.added < 2 ^ 64 - 1 = omega arith in
    let kept = stands-kept c.self.inside.field c.self.inside.added c.self.inside.count c.self.inside.table c.room_for.new.table c.self.inside.fresh c.room_for.new.fresh c.self.inside.ready c.self.invariant made.content made.holds made.full made.fresh made.kept in
    stands-ready c.self.inside.field c.self.inside.added c.self.inside.count c.room_for.new.table c.room_for.new.fresh c.self.inside.ready c.in-Some.key c.in_ok-place.place kept below c.in_ok-place.ensures.room
