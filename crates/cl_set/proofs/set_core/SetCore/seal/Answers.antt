use Rattle.std.proofs.Common.{◌≡◌, List, subst, sym, ◌∙◌, ap, map, Some, refl}
use Rattle.cl_value.specs.Plain.{PlainAct}
use Rattle.cl_value.specs.Views.{plain_act}
use Rattle.cl_value.specs.Tickets.{IsAbove}
use Rattle.cl_set.specs.Sets.{PlainSet}
use Rattle.cl_set.proofs.Steps.{stands-sealed, told-kept, pushed}
use Rattle.std.proofs.lemmas.List.{map-append}
use Rattle.cl_set.proofs.set_core.SetCore.seal.Goals as goal

pub invariant_of-self : goal.invariant_of-self
invariant_of-self c =
    let was : c.self.inside.begun ≡ Some c.in-Some.field-0 = cc in
    let A : List PlainAct → Type 0 = IsAbove c.args.ticket in
    stands-sealed c.self.inside.shape c.self.inside.limit c.self.inside.store c.self.inside.acts c.push.new.self c.in-Some.field-0 c.self.inside.begun c.take.new.self c.self.inside.buffer
    (record { ticket = c.args.ticket; proc = c.args.name; site = c.in-Some.field-0.site; what = c.in-Some.field-0.kept }) was c.take.ensures.after refl refl c.push.ensures.items (subst A (sym (ap (λ (s : PlainSet). s.acts) c.self.view_is)) c.requires.above) c.self.invariant

pub returns-clause-acts : goal.returns-clause-acts
returns-clause-acts c =
    let was : c.self.inside.begun ≡ Some c.in-Some.field-0 = cc in
    let same = told-kept c.self.inside.acts c.self.inside.begun c.in-Some.field-0 was c.self.invariant.twice in
    ap (map plain_act) c.push.ensures.items ∙ (map-append plain_act c.self.inside.acts.items _ ∙ pushed _ _ c.args.ticket c.args.name c.in-Some.field-0.site _ _ (ap (λ (s : PlainSet). s.acts) c.self.view_is) (sym same))
