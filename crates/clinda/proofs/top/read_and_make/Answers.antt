use Rattle.std.proofs.Common.{◌≤◌, ap, arith, ◌∙◌, refl, subst, sym, length, Err, inl, inr}
use Rattle.std.specs.Prelude.{option_map}
use Rattle.cl_value.specs.Views.{plain_run}
use Rattle.cl_outside.specs.Streams.{TakesAll}
use Rattle.clinda.specs.Refusals.{too_large}
use Rattle.clinda.specs.declared.ending.TopEnd.{TopEnd}
use Rattle.clinda.specs.Answering.{Failed, Larger, NoRoom}
use Rattle.clinda.proofs.Reading.{had, stopped}
use Rattle.clinda.proofs.Sayings.{left_count, resaid}
use Rattle.clinda.proofs.top.read_and_make.Goals as goal

pub returns-in-Ok : goal.returns-in-Ok
returns-in-Ok g c =
    let few : length c.as_slice.result.now ≤ c.most_bytes.result = omega (arith, c.in-Ok.ensures.few, ap length c.as_slice.ensures) in
    let all = subst (λ xs. TakesAll xs (g.I.Source.left c.args.src.now) (g.I.Source.left c.read_all.new.src)) (sym c.as_slice.ensures) c.in-Ok.ensures.all in
    had c.args.command c.most_bytes.result _ _ _ _ c.as_slice.result.now c.most_bytes.ensures.limit few all (left_count c.read_all.result _ _ c.read_all.ensures.kept (λ fault. cc)) c.make.ensures

pub returns-in-Err-Fault : goal.returns-in-Err-Fault
returns-in-Err-Fault g c =
    let was = c.in-Err-Fault.is ∙ ap (λ e. Err e) c.in-Err-Fault.field-0-is in
    stopped c.args.command c.most_bytes.result _ _ _ _ c.most_bytes.ensures.limit
    (Failed (ap (λ (end : TopEnd). end.status) c.without_report.ensures) (ap (λ (end : TopEnd). option_map plain_run end.report) c.without_report.ensures)
    (c.read_all.ensures.fault was) (c.read_all.ensures.lost (inl was)) (record { same = refl; quiet = refl }))

pub returns-in-Err-TooLarge : goal.returns-in-Err-TooLarge
returns-in-Err-TooLarge g c =
    let was = c.in-Err-TooLarge.is ∙ ap (λ e. Err e) c.in-Err-TooLarge.field-0-is in
    let status = ap (λ (end : TopEnd). end.status) c.without_report-in-Err-TooLarge.ensures in
    stopped c.args.command c.most_bytes.result _ _ _ _ c.most_bytes.ensures.limit
    (Larger (c.read_all.ensures.too_large was) (left_count c.read_all.result _ _ c.read_all.ensures.kept (λ fault. cc))
    (ap (λ (end : TopEnd). option_map plain_run end.report) c.without_report-in-Err-TooLarge.ensures)
    (resaid c.too_large.result.now too_large 2 c.say.result c.without_report-in-Err-TooLarge.result.status c.too_large.ensures status c.say.ensures))

pub returns-in-Err-NoMemory : goal.returns-in-Err-NoMemory
returns-in-Err-NoMemory g c =
    let was = c.in-Err-NoMemory.is ∙ ap (λ e. Err e) c.in-Err-NoMemory.field-0-is in
    stopped c.args.command c.most_bytes.result _ _ _ _ c.most_bytes.ensures.limit
    (NoRoom (ap (λ (end : TopEnd). end.status) c.without_report-in-Err-NoMemory.ensures) (ap (λ (end : TopEnd). option_map plain_run end.report) c.without_report-in-Err-NoMemory.ensures)
    (left_count c.read_all.result _ _ c.read_all.ensures.kept (λ fault. cc)) (c.read_all.ensures.lost (inr was)) (record { same = refl; quiet = refl }))
