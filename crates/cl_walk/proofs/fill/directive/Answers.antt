use Rattle.std.proofs.Common.{◌∙◌, ap, ◌∷◌, get_or, take, drop, length, ◌-◌}
use Rattle.cl_meaning.specs.Printing.{filled}
use Rattle.cl_walk.proofs.Printing.{number_is, character_is, percent_is, long_is, first_and_rest}
use Rattle.cl_walk.proofs.fill.directive.Goals as goal

pub returns-then-letter-eq100-clause-means : goal.returns-then-letter-eq100-clause-means
returns-then-letter-eq100-clause-means c = λ values. ap (λ n. filled (37 ∷ n ∷ c.args.behind.now) values) c.if-letter-eq100.true ∙ number_is c.args.behind.now values

pub returns-then-letter-eq99-clause-means : goal.returns-then-letter-eq99-clause-means
returns-then-letter-eq99-clause-means c = λ values. ap (λ n. filled (37 ∷ n ∷ c.args.behind.now) values) c.if-letter-eq99.true ∙ character_is c.args.behind.now values

pub returns-then-letter-eq37-clause-means : goal.returns-then-letter-eq37-clause-means
returns-then-letter-eq37-clause-means c = λ values. ap (λ n. filled (37 ∷ n ∷ c.args.behind.now) values) c.if-letter-eq37.true ∙ percent_is c.args.behind.now values

pub returns-in-len1-up-clause-means : goal.returns-in-len1-up-clause-means
returns-in-len1-up-clause-means c = λ values.
    ap (λ bytes. filled (37 ∷ c.args.letter ∷ bytes) values) (first_and_rest c.args.behind.now c.in-len1-up.len_at_least)
    ∙ long_is c.args.letter (get_or c.args.behind.now 0 0) (take (length c.args.behind.now - 1) (drop 1 c.args.behind.now)) values c.if-letter-eq100.false c.if-letter-eq99.false c.if-letter-eq37.false
