use Rattle.std.proofs.Common.{◌≡◌, ◌++◌, drop}
use Rattle.cl_sig.specs.Shapes.{sites_from}
use Rattle.cl_report.specs.Analysis.{numbers_text}
use Rattle.cl_report.proofs.analysis.add_members.Given as goal

abbrev pub invariant-loop-site : goal.invariant-loop-site
invariant-loop-site l = l.text ++ numbers_text (sites_from l.site (drop l.site l.sets) l.set) ≡ l.fn.text ++ numbers_text (sites_from 0 l.sets l.set)
