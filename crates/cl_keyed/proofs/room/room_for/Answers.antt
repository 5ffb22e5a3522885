use Rattle.std.proofs.Common.{◌<◌}
use Rattle.std.proofs.lemmas.Result.{IfOk-at_ok}
use Rattle.cl_keyed.proofs.Fulls.{full-reserved}
use Rattle.cl_keyed.proofs.Rooms.{content-reserved, holds-reserved, room-kept, room-made}
use Rattle.cl_keyed.proofs.room.room_for.Goals as goal

pub returns-in_err-reserve-in-Some-clause-content : goal.returns-in_err-reserve-in-Some-clause-content
returns-in_err-reserve-in-Some-clause-content c = λ n. let next = c.reserve.ensures.lines in content-reserved n _ _ c.in-Some.line next.0 next.1.0 next.1.1

pub returns-in_err-reserve-in-Some-clause-holds : goal.returns-in_err-reserve-in-Some-clause-holds
returns-in_err-reserve-in-Some-clause-holds c = λ field n holds. let next = c.reserve.ensures.lines in holds-reserved field n _ _ c.in-Some.line next.0 next.1.0 next.1.1 holds

pub returns-in_err-reserve-in-Some-clause-kept : goal.returns-in_err-reserve-in-Some-clause-kept
returns-in_err-reserve-in-Some-clause-kept c = λ k place room. let next = c.reserve.ensures.lines in room-kept c.args.table.now c.reserve.new.self c.args.fresh.now c.in-Some.line next.0 next.1.0 c.reserve.ensures.spare next.1.3 k place room

pub returns-in_ok-reserve-in-Some-clause-content : goal.returns-in_ok-reserve-in-Some-clause-content
returns-in_ok-reserve-in-Some-clause-content c = λ n. let next = c.reserve.ensures.lines in content-reserved n _ _ c.in-Some.line next.0 next.1.0 next.1.1

pub returns-in_ok-reserve-in-Some-clause-holds : goal.returns-in_ok-reserve-in-Some-clause-holds
returns-in_ok-reserve-in-Some-clause-holds c = λ field n holds. let next = c.reserve.ensures.lines in holds-reserved field n _ _ c.in-Some.line next.0 next.1.0 next.1.1 holds

pub returns-in_ok-reserve-in-Some-clause-room : goal.returns-in_ok-reserve-in-Some-clause-room
returns-in_ok-reserve-in-Some-clause-room c =
    let next = c.reserve.ensures.lines in
    let some = IfOk-at_ok (λ _. 0 < next.0.spare) c.in_ok-reserve-in-Some.was next.1.2 in
    room-made c.args.table.now c.reserve.new.self c.args.fresh.now c.args.key c.in-Some.line next.0 c.in-Some.ensures.found next.1.0 some

pub returns-in_ok-reserve-in-Some-clause-kept : goal.returns-in_ok-reserve-in-Some-clause-kept
returns-in_ok-reserve-in-Some-clause-kept c = λ k place room. let next = c.reserve.ensures.lines in room-kept c.args.table.now c.reserve.new.self c.args.fresh.now c.in-Some.line next.0 next.1.0 c.reserve.ensures.spare next.1.3 k place room

pub returns-in_err-reserve-in-Some-clause-full : goal.returns-in_err-reserve-in-Some-clause-full
returns-in_err-reserve-in-Some-clause-full c = λ full. let next = c.reserve.ensures.lines in full-reserved c.args.table.now.lines c.reserve.new.self.lines c.in-Some.line next.0 next.1.0 next.1.1 full

pub returns-in_ok-reserve-in-Some-clause-full : goal.returns-in_ok-reserve-in-Some-clause-full
returns-in_ok-reserve-in-Some-clause-full c = λ full. let next = c.reserve.ensures.lines in full-reserved c.args.table.now.lines c.reserve.new.self.lines c.in-Some.line next.0 next.1.0 next.1.1 full
