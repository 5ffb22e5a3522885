use Rattle.std.proofs.Common.{ℕ, List, length, ap, subst, ◌∙◌}
use Rattle.cl_value.specs.Tickets.{by_ticket}
use Rattle.cl_value.specs.Text.{run_text}
use Rattle.cl_value.specs.Views.{plain_run}
use Rattle.cl_listing.specs.Listed.{Listed}
use Rattle.clinda.specs.Saying.{Speaks}
use Rattle.clinda.proofs.seq.say_listed.Goals as goal

pub returns : goal.returns
returns g c = λ items listed.
    subst
    (λ (texts : List (List ℕ)). Speaks (record { text = run_text texts (plain_run c.args.report.now).reports (length (by_ticket (plain_run c.args.report.now).histories)) c.args.report.now.status; status = c.args.report.now.status }) c.say_run.result (g.O.Sink.written c.args.out.now) (g.O.Sink.written c.say_run.new.out) (g.O.Sink.faults c.args.out.now) (g.O.Sink.faults c.say_run.new.out))
    (c.texts.ensures ∙ ap (λ (kept : Listed). kept.texts) listed) c.say_run.ensures
