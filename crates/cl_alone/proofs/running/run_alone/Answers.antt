use Rattle.std.proofs.Common.{◌≡◌, ◌≤◌, length, ◌∙◌, ap, sym, subst}
use Rattle.std.proofs.lemmas.Result.{IfOk-weaker}
use Rattle.cl_value.specs.Plain.{PlainRun}
use Rattle.cl_value.specs.Tickets.{acts_in}
use Rattle.cl_value.specs.Views.{plain_end, plain_run}
use Rattle.cl_value.specs.declared.process.RunReport.{RunReport}
use Rattle.cl_meaning.specs.Process.{demands}
use Rattle.cl_model.specs.Good.{Turns}
use Rattle.cl_model.specs.Runs.{GoodRun}
use Rattle.cl_alone.specs.Reports.{run_of, IsRunStatus}
use Rattle.cl_alone.specs.Sets.{operations_in, meaning_of}
use Rattle.cl_alone.proofs.Leavings.{left_good, left_few, left_status}
use Rattle.cl_alone.proofs.running.run_alone.Goals as goal

pub returns : goal.returns
returns g c =
    let items = c.args.unit.now.items in
    let left = c.in_ok-left.left in
    let limit = c.args.entries in
    let counted = c.count_operations-sites.ensures items c.requires in
    let sites : left.stage.sites ≡ operations_in items = c.in_ok-left.ensures.sites ∙ counted in
    let made : PlainRun = run_of (operations_in items) left.stage.acts left.output.items (plain_end left.end) in
    let reported : (run : RunReport) → plain_run run ≡ run_of c.count_operations-sites.result left.stage.acts left.output.items (plain_end left.end) → made ≡ plain_run run = λ run h. sym (h ∙ ap (λ n. run_of n left.stage.acts left.output.items (plain_end left.end)) counted) in
    let leaves = c.in_ok-left.ensures.leaves in
    record {
      good = IfOk-weaker c.report_of.result (λ run. plain_run run ≡ run_of c.count_operations-sites.result left.stage.acts left.output.items (plain_end left.end)) (λ run. GoodRun (meaning_of items c.args.ticks limit) Turns (plain_run run))
          (λ run h. subst (λ r. GoodRun (meaning_of items c.args.ticks limit) Turns r) (reported run h) (left_good (demands items c.args.ticks) (operations_in items) limit left.stage left.output.items (plain_end left.end) leaves sites c.in_ok-left.ensures.limit))
          c.report_of.ensures;
      few = IfOk-weaker c.report_of.result (λ run. plain_run run ≡ run_of c.count_operations-sites.result left.stage.acts left.output.items (plain_end left.end)) (λ run. length (acts_in (plain_run run).histories) ≤ limit)
          (λ run h. subst (λ (r : PlainRun). length (acts_in r.histories) ≤ limit) (reported run h) (left_few (demands items c.args.ticks) (operations_in items) limit left.stage left.output.items (plain_end left.end) leaves c.in_ok-left.ensures.limit))
          c.report_of.ensures;
      status = IfOk-weaker c.report_of.result (λ run. plain_run run ≡ run_of c.count_operations-sites.result left.stage.acts left.output.items (plain_end left.end)) (λ run. IsRunStatus run.status)
          (λ run h. subst (λ (r : PlainRun). IsRunStatus r.status) (reported run h) (left_status (demands items c.args.ticks) left.stage left.output.items (plain_end left.end) leaves))
          c.report_of.ensures;
    }
