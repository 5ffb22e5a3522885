use Rattle.std.proofs.Common.{◌∙◌, ap, get_or, take, drop, length, ◌-◌}
use Rattle.cl_meaning.specs.Printing.{filled}
use Rattle.cl_walk.proofs.Printing.{byte_is, first_and_rest}
use Rattle.cl_walk.proofs.fill.first_part.Goals as goal

pub returns-else-byte-eq37-clause-means : goal.returns-else-byte-eq37-clause-means
returns-else-byte-eq37-clause-means c = λ values. ap (λ bytes. filled bytes values) (first_and_rest c.args.format.now c.in-len1-up.len_at_least) ∙ byte_is (get_or c.args.format.now 0 0) (take (length c.args.format.now - 1) (drop 1 c.args.format.now)) values c.if-byte-eq37.false
