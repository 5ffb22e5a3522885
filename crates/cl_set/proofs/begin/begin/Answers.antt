use Rattle.std.proofs.Common.{sym, ◌∙◌, ap}
use Rattle.cl_value.specs.Replay.{replayed}
use Rattle.cl_value.specs.Views.{plain_ask}
use Rattle.cl_value.specs.declared.request.Ask.{Ask}
use Rattle.cl_value.specs.Answers.{answer}
use Rattle.cl_set.proofs.Found.{taken-replayed, taken_now-replayed}
use Rattle.cl_set.specs.Stores.{content_in}
use Rattle.cl_set.proofs.begin.begin.Goals as goal

pub returns-in_ok-kept-in-In-clause-content : goal.returns-in_ok-kept-in-In-clause-content
returns-in_ok-kept-in-In-clause-content g c =
    let ts = content_in c.args.store.now in
    c.in_ok-kept-in-In.ensures.content ∙ (taken-replayed ts c.in-In.template.items ∙ sym (ap (λ (ask : Ask). replayed ts (answer ts (plain_ask ask))) c.in-In.is))

pub returns-in_ok-kept-in-Inp-clause-content : goal.returns-in_ok-kept-in-Inp-clause-content
returns-in_ok-kept-in-Inp-clause-content g c =
    let ts = content_in c.args.store.now in
    c.in_ok-kept-in-Inp.ensures.content ∙ (taken_now-replayed ts c.in-Inp.template.items ∙ sym (ap (λ (ask : Ask). replayed ts (answer ts (plain_ask ask))) c.in-Inp.is))
