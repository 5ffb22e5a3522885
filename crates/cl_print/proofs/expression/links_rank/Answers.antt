use Rattle.std.proofs.Common.{map, drop, sym, ◌∙◌, arith}
use Rattle.cl_print.specs.Expressions.{chain_rank, link_joined}
use Rattle.cl_print.proofs.Lines.{further}
use Rattle.cl_print.proofs.Equations.{links_rank}
use Rattle.cl_print.proofs.expression.links_rank.Goals as goal

pub returns-in-len1-up : goal.returns-in-len1-up
returns-in-len1-up c = c.operator_rank.ensures ∙ sym (links_rank c.link-item.result (drop 1 c.args.others.now)) ∙ sym (further (λ ys. chain_rank (map link_joined ys)) c.args.others.now 0 c.link-item.result c.link-item.is (omega arith))
