use Rattle.std.proofs.Common.{◌≡◌, drop}
use Rattle.cl_types.specs.Findings.{seen}
use Rattle.cl_front.specs.Judging.{eval_among}
use Rattle.cl_front.proofs.judge.eval_among.Given as goal

abbrev pub invariant-loop-site : goal.invariant-loop-site
invariant-loop-site l = eval_among (seen l.sites) ≡ eval_among (seen (drop l.site-index l.sites))
