use Rattle.std.proofs.Common.{ℕ, ap, subst, sym}
use Rattle.clinda.specs.Refusals.{printed}
use Rattle.clinda.specs.Saying.{Speaks}
use Rattle.clinda.specs.Making.{refusal_saying}
use Rattle.clinda.specs.declared.ending.TopEnd.{TopEnd}
use Rattle.clinda.proofs.ending.refuse.Goals as goal

pub returns-clause-said : goal.returns-clause-said
returns-clause-said g c =
    let status = ap (λ (end : TopEnd). end.status) c.without_report.ensures in
    subst (λ (s : ℕ). Speaks (refusal_saying (printed c.args.source.now c.args.refusal)) s (g.O.Sink.written c.args.out.now) (g.O.Sink.written c.say_refusal.new.out) (g.O.Sink.faults c.args.out.now) (g.O.Sink.faults c.say_refusal.new.out)) (sym status) c.say_refusal.ensures
