use Rattle.std.proofs.Common.{◌<◌, subst}
use Rattle.cl_sig.specs.Numbers.{count_of}
use Rattle.cl_sig.proofs.Numbering.{number_below}
use Rattle.cl_sig.proofs.sets.Sets.set_of.Goals as goal

pub returns-clause-within : goal.returns-clause-within
returns-clause-within c =
    subst (λ numbers. c.at.result.now < count_of numbers) c.self.view_is (number_below 0 _ c.args.site c.at.result.now c.self.invariant.0 c.at.ensures)
