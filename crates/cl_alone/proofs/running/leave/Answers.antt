use Rattle.cl_value.specs.Views.{plain_end}
use Rattle.cl_meaning.specs.Process.{demands}
use Rattle.cl_alone.proofs.Leavings.{walk_leaves}
use Rattle.cl_alone.proofs.running.leave.Goals as goal

pub returns-clause-leaves : goal.returns-clause-leaves
returns-clause-leaves g c =
    walk_leaves (demands c.args.unit.now.items c.args.ticks) c.args.bounds.sites c.args.bounds.entries c.new-space.result c.walk.new.world c.into_parts-stage.result.0 c.into_parts-stage.result.1
    c.in_ok-walked.walked.output.items c.in_ok-walked.walked.ending (plain_end c.in_ok-end.end)
    c.new-space.ensures.moment c.in_ok-walked.ensures c.into_parts-stage.ensures.moment c.into_parts-stage.ensures.pause c.into_parts-stage.ensures.sound c.in_ok-end.ensures
