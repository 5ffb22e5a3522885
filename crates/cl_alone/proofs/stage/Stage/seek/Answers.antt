use Rattle.std.proofs.Common.{◌≡◌, List, [], ◌∷◌, ◌++◌, ap, ◌∙◌, sym, subst, ◌+◌, ◌<◌, length, refl}
use Rattle.cl_value.specs.Plain.{PlainAct, Got}
use Rattle.cl_value.specs.Views.{plain_act, plain_what}
use Rattle.cl_alone.specs.Moment.{Moment, next_act, Did}
use Rattle.cl_alone.specs.Seekings.{request_by, hit}
use Rattle.cl_alone.proofs.Hits.{hits}
use Rattle.cl_alone.proofs.stage.Stage.seek.Goals as goal

pub returns-then-look-clause-done : goal.returns-then-look-clause-done
returns-then-look-clause-done g c =
    let t = c.look.new.into.items in
    let template = c.args.template.now.items in
    let old : Moment = record { acts = c.self.inside.log.items; tuples = c.self.inside.tuples.tuples; sites = c.self.inside.bounds.sites; limit = c.self.inside.bounds.entries } in
    let what : plain_what c.hit-then-look.result ≡ hit c.args.seeking template t = c.hit-then-look.ensures ∙ (ap (λ m. hit c.args.seeking m c.refill.new.self.items) c.in_ok-prepared.ensures.again ∙ ap (λ u. hit c.args.seeking template u) c.refill.ensures.fields) in
    let act : plain_act c.act-second.result ≡ next_act old c.args.site (hit c.args.seeking template t) = c.act-second.ensures ∙ (ap (λ (acts : List PlainAct). record { ticket = length acts + 1; proc = 0; site = c.args.site; what = plain_what c.hit-then-look.result }) c.in_ok-prepared.ensures.acts ∙ ap (λ w. next_act old c.args.site w) what) in
    let acts : c.push.new.self.items ≡ old.acts ++ next_act old c.args.site (hit c.args.seeking template t) ∷ [] = c.push.ensures ∙ (ap (λ xs. xs ++ plain_act c.act-second.result ∷ []) c.in_ok-prepared.ensures.acts ∙ ap (λ a. old.acts ++ a ∷ []) act) in
    let new : Moment = record { acts = c.push.new.self.items; tuples = c.look.new.tuples.tuples; sites = c.self.inside.bounds.sites; limit = c.self.inside.bounds.entries } in
    let done : Did old (request_by c.args.site c.args.seeking template) (Got t) new = hits old c.args.site c.args.seeking template t new.acts new.tuples (c.if-look.ensures.found refl) (c.if-look.ensures.left refl) (subst (λ (m : Moment). c.args.site < m.sites) (sym c.self.view_is) c.requires.site) (subst (λ (m : Moment). length m.acts < m.limit) (sym c.self.view_is) c.requires.room) acts in
    subst (λ u. Did c.args.self.now (request_by c.args.site c.args.seeking template) (Got u) new) (sym c.refill-then-look.ensures.fields)
    (subst (λ m. Did m (request_by c.args.site c.args.seeking template) (Got t) new) c.self.view_is done)
