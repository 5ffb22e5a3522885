use Rattle.std.proofs.Common.{◌≡◌, ◌+◌, ◌≤◌, sym, ◌∙◌, ap, subst, length, None, IsTrue}
use Rattle.cl_store.proofs.Same.{both}
use Rattle.cl_value.specs.Views.{plain_request, plain_ask}
use Rattle.cl_sig.specs.Suits.{suits, ask_suits}
use Rattle.cl_sig.specs.Views.{plain_shape}
use Rattle.cl_set.specs.Conditions.{has_site}
use Rattle.cl_set.specs.Sets.{PlainSet}
use Rattle.cl_set.proofs.Steps.{stands-begun, some-at, none-begun, cost-stands}
use Rattle.cl_set.proofs.set_core.SetCore.perform.Goals as goal

pub invariant_of-self-in-Some : goal.invariant_of-self-in-Some
invariant_of-self-in-Some g c =
    let i = c.self.inside in
    let view = c.self.view_is in
    let gone : i.begun ≡ None = none-begun i.begun (ap (λ (s : PlainSet). s.begun) view ∙ c.requires.idle) in
    let request = plain_request c.args.request.now in
    let suited : IsTrue (suits (plain_shape i.shape) request) = ap (λ (s : PlainSet). suits s.shape request) view ∙ c.requires.suits in
    let parts = both (has_site (plain_shape i.shape) request.site) (ask_suits (plain_shape i.shape) request.ask) suited in
    let F : PlainSet → Type 0 = λ s. length s.acts + 1 ≤ s.limit in
    let few = subst F (sym view) c.requires.few in
    stands-begun i.shape i.limit i.store c.begin.new.store i.acts c.reserve.new.self i.begun (record { site = c.args.request.now.site; kept = c.in-Some.field-0.kept; told = c.in-Some.field-0.told }) request.ask i.buffer c.begin.new.buffer gone c.reserve.ensures.items c.in_ok-reserve.ensures.spare
    (some-at _ _ c.in-Some.field-0 c.in-Some.is c.in_ok-done.ensures.kept) (some-at _ _ c.in-Some.field-0 c.in-Some.is c.in_ok-done.ensures.told) c.in_ok-done.ensures.content c.begin.ensures.admits c.begin.ensures.fits c.begin.ensures.class c.begin.ensures.room few parts.0 parts.1 c.self.invariant

pub returns-in-Some-clause-cost : goal.returns-in-Some-clause-cost
returns-in-Some-clause-cost g c =
    let i = c.self.inside in
    cost-stands i.shape i.limit i.store i.acts i.begun i.buffer c.args.self.now (plain_ask c.args.request.now.ask) c.args.steps.now c.begin.new.steps c.self.invariant c.self.view_is c.requires.idle c.begin.ensures.searches c.begin.ensures.others
