use Rattle.std.proofs.Common.{refl, length, ◌∙◌, inl}
use Rattle.cl_value.specs.Tickets.{by_ticket}
use Rattle.cl_value.specs.Text.{run_text}
use Rattle.cl_value.specs.Views.{plain_run}
use Rattle.cl_text.specs.Tables.{texts_of}
use Rattle.clinda.proofs.Sayings.{resaid}
use Rattle.clinda.proofs.told_run.say_run.Goals as goal

pub returns-in-Ok : goal.returns-in-Ok
returns-in-Ok g c =
    inl
    (resaid c.as_bytes.result.now (run_text (texts_of c.args.texts.now) (plain_run c.args.report.now).reports (length (by_ticket (plain_run c.args.report.now).histories)) c.args.report.now.status) c.args.report.now.status c.say.result c.say.result
    (c.as_bytes.ensures ∙ c.in-Ok.ensures) refl c.say.ensures)
