use Rattle.std.proofs.Common.{◌≡◌, ◌+◌, ◌≤◌, ◌∙◌, ap, sym, subst, Bool, true, false, if◌then◌else◌, Ok, ℕ}
use Rattle.cl_value.specs.Replay.{replay}
use Rattle.cl_value.specs.Views.{plain_ask, plain_request}
use Rattle.cl_value.specs.Answers.{waits}
use Rattle.cl_set.specs.Sets.{PlainSet, cost_of}
use Rattle.cl_set.specs.declared.set_core.Planned.{Planned}
use Rattle.cl_set.specs.declared.set_core.Planned.TheVariants as planned
use Rattle.cl_set.proofs.Replies.{goes-on, asked-begun, fits-begun}
use Rattle.cl_set.proofs.Steps.{cost-stands}
use Rattle.cl_set.proofs.set_core.SetCore.plan.Goals as goal
use Rattle.cl_set.proofs.set_core.SetCore.plan.Goals.{in-Ok, in-Err}

-- nothing was begun where the memory ran out
not_begun : (b : Bool) (p : Planned) → p ≡ (if b then planned.NotYet else planned.NoMemory) → p ≡ planned.Begun → ⊥
not_begun true p a is = cc
not_begun false p a is = cc

pub returns-clause-asked : goal.returns-clause-asked
returns-clause-asked g c =
    elim c.match-perform.branch [
      | in-Ok w ↦ λ is.
          let request = plain_request c.args.request.now in
          let ts = replay c.args.self.now.acts in
          let begun = sym w.result-is ∙ is in
          let goes : waits ts request.ask ≡ false = goes-on (waits ts request.ask) w.in-Ok.planned w.in-Ok.ensures.waits begun in
          asked-begun c.perform.new.self.begun request ts (ap (λ (s : PlainSet). s.begun) (w.in-Ok.ensures.begun (ap (λ p. Ok p) begun))) goes
      | in-Err w ↦ λ is. absurd (not_begun _ c.match-perform.result (w.result-is ∙ w.refuse-in-Err.ensures.answer) is)
    ]

pub returns-clause-fits : goal.returns-clause-fits
returns-clause-fits g c =
    elim c.match-perform.branch [
      | in-Ok w ↦ λ is.
          let request = plain_request c.args.request.now in
          let ts = replay c.args.self.now.acts in
          let begun = sym w.result-is ∙ is in
          let goes : waits ts request.ask ≡ false = goes-on (waits ts request.ask) w.in-Ok.planned w.in-Ok.ensures.waits begun in
          fits-begun c.perform.new.self.begun request ts (ap (λ (s : PlainSet). s.begun) (w.in-Ok.ensures.begun (ap (λ p. Ok p) begun))) goes
      | in-Err w ↦ λ is. absurd (not_begun _ c.match-perform.result (w.result-is ∙ w.refuse-in-Err.ensures.answer) is)
    ]

pub returns-clause-cost : goal.returns-clause-cost
returns-clause-cost g c =
    let now = c.args.self.now in
    let ask = plain_ask c.args.request.now.ask in
    let P : ℕ → Type 0 = λ n. n ≤ c.args.steps.now + cost_of now.shape.class (replay now.acts) ask in
    elim c.match-perform.branch [
      | in-Ok w ↦ subst P (sym w.steps-is) c.perform.ensures.cost
      | in-Err w ↦
          let j = c.self-2.inside in
          let bound = cost-stands j.shape j.limit j.store j.acts j.begun j.buffer now ask c.perform.new.steps w.refuse-in-Err.new.steps c.self-2.invariant (c.self-2.view_is ∙ w.in-Err.ensures.refused) c.requires.idle w.refuse-in-Err.ensures.searches w.refuse-in-Err.ensures.others in
          let Q : ℕ → Type 0 = λ n. w.refuse-in-Err.new.steps ≤ n + cost_of now.shape.class (replay now.acts) ask in
          subst P (sym w.steps-is) (subst Q w.in-Err.ensures.uncounted bound)
    ]
