use Rattle.std.proofs.Common.{◌∙◌, ap, ◌∷◌}
use Rattle.cl_meaning.specs.Printing.{filled}
use Rattle.cl_walk.proofs.Printing.{first_and_rest}
use Rattle.cl_walk.proofs.fill.behind_percent.Goals as goal

pub returns-in-len1-up-clause-means : goal.returns-in-len1-up-clause-means
returns-in-len1-up-clause-means c = λ values. ap (λ bytes. filled (37 ∷ bytes) values) (first_and_rest c.args.behind.now c.in-len1-up.len_at_least) ∙ c.directive.ensures.means values
