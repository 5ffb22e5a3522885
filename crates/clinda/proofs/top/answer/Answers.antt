use Rattle.std.proofs.Common.{ap, refl}
use Rattle.std.specs.Prelude.{option_map}
use Rattle.cl_value.specs.Views.{plain_run}
use Rattle.clinda.specs.Refusals.{words_refused}
use Rattle.clinda.specs.declared.ending.TopEnd.{TopEnd}
use Rattle.clinda.specs.Answering.{NoCommand, Commanded}
use Rattle.clinda.proofs.Sayings.{resaid}
use Rattle.clinda.proofs.top.answer.Goals as goal

pub returns-in-Some : goal.returns-in-Some
returns-in-Some g c = Commanded c.in-Some.command c.in-Some.ensures.opened c.read_and_make.ensures

pub returns-in-None : goal.returns-in-None
returns-in-None g c =
    let status = ap (λ (end : TopEnd). end.status) c.without_report.ensures in
    NoCommand c.in-None.ensures.none refl refl (ap (λ (end : TopEnd). option_map plain_run end.report) c.without_report.ensures)
    (resaid c.words_refused.result.now words_refused 1 c.say.result c.without_report.result.status c.words_refused.ensures status c.say.ensures)
