use Rattle.std.proofs.Common.{subst}
use Rattle.std.specs.Prelude.{IfSome}
use Rattle.cl_ticket.specs.Points.{DrawnOnce}
use Rattle.cl_ticket.specs.Tokens.{participants_of}
use Rattle.cl_ticket.proofs.CloseLaws.{four-drawn, three-gathered}
use Rattle.test_sets.proofs.tests.threads.finish.Goals as goal

pub returns : goal.returns
returns g c =
    let p = c.args.workers.0 in
    let q = c.args.workers.1 in
    let r = c.args.workers.2 in
    let s = c.args.workers.3 in
    let main = c.gather-3.new.into in
    let people = three-gathered p.seat q.seat r.seat s.seat c.gather.new.into c.gather-2.new.into main c.gather.ensures.gathered c.gather-2.ensures.gathered c.gather-3.ensures.gathered c.requires.first.0 c.requires.first.1 c.requires.last.0 c.requires.last.1 in
    let once = subst (λ r. IfSome r (λ next. DrawnOnce next (participants_of main))) c.in-Some.is c.in_ok-next.ensures.once in
    record { once = four-drawn c.in-Some.next (participants_of main) p.seat.participant q.seat.participant r.seat.participant s.seat.participant p.drawn.items q.drawn.items r.drawn.items s.drawn.items once people p.told q.told r.told s.told }
