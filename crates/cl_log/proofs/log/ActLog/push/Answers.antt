use Rattle.std.proofs.Common.{sym, subst}
use Rattle.cl_value.specs.Tickets.{IsAbove}
use Rattle.cl_log.specs.Logs.{acts_in_blocks}
use Rattle.cl_log.proofs.Logs.{above_right}
use Rattle.cl_log.proofs.log.ActLog.push.Goals as goal

pub push-requires-clause-above : goal.push-requires-clause-above
push-requires-clause-above c =
    above_right c.args.ticket (acts_in_blocks c.self.inside.full.items) c.self.inside.open.acts (subst (λ b. IsAbove c.args.ticket b.acts) (sym c.self.view_is) c.requires.above)
