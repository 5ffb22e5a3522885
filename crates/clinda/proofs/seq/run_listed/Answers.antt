use Rattle.std.proofs.Common.{refl}
use Rattle.cl_value.specs.Views.{plain_run}
use Rattle.clinda.specs.Running.{Reported}
use Rattle.clinda.proofs.seq.run_listed.Goals as goal

pub returns : goal.returns
returns g c = Reported (plain_run c.in-Ok.report) refl c.in-Ok.ensures.good (c.say_listed-status.ensures c.args.unit.now.items c.requires)
