use Rattle.std.proofs.Common.{arith, ap, ◌∙◌, ◌≡◌, ◌++◌, ◌∷◌, [], suc}
use Rattle.cl_value.specs.Views.{plain_what}
use Rattle.cl_ticket.specs.Rule.{if_eval, depth_of}
use Rattle.cl_ticket.specs.Steps.{act_of, birth, plain_history, unborn_after}
use Rattle.cl_ticket.specs.Tokens.{SetToken, guest_of}
use Rattle.test_sets.proofs.Counts.{counts-more, drawn-more}
use Rattle.test_sets.proofs.tests.set_state.SetState.act.Goals as goal

pub invariant_of-self : goal.invariant_of-self
invariant_of-self g c =
    let s = c.args.self.now in
    let p = (guest_of c.enter.new.set).participant in
    let a = act_of c.args.site (plain_what c.args.what.now) p c.draw-ticket.result in
    let h : c.leave.new.set.history ≡ plain_history s.seat.history.set (s.seat.history.acts ++ a ∷ []) = ap (λ (q : SetToken). q.history) c.leave.ensures.set ∙ drawn-more s.seat c.enter.new.set c.draw-ticket.new.set c.args.guest a c.enter.ensures.stands c.draw-ticket.ensures.drawn in
    let m = counts-more s.seat.history c.leave.new.set.history a h in
    let l = m.0 in
    let e = m.1 in
    let i = s.counted in
    let j = s.made in
    let k = s.few in
    let none = ap (λ b. if_eval b 1) c.requires.act in
    record {
      limited = s.limited;
      alone = ap (λ (q : SetToken). q.guest) c.leave.ensures.set;
      born = ap (λ (q : SetToken). q.unborn) c.leave.ensures.set
          ∙ (ap (λ (q : SetToken). q.unborn) c.draw-ticket.ensures.drawn ∙ (ap (λ b. unborn_after b (birth a (suc (depth_of p.origin))) c.enter.new.set.unborn) c.requires.act ∙ (ap (λ (q : SetToken). q.unborn) c.enter.ensures.stands ∙ s.born)));
      counted = omega arith;
      few = omega arith;
      made = omega arith;
    }
