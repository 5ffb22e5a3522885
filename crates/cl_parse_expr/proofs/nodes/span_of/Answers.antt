use Rattle.std.proofs.Common.{arith}
use Rattle.cl_parse_expr.proofs.Spans.{spanned}
use Rattle.cl_parse_expr.proofs.nodes.span_of.Goals as goal

pub returns-in-len1-up : goal.returns-in-len1-up
returns-in-len1-up c =
    spanned c.args.tokens.now c.first-item.result c.index-tokens-tokens.result (omega (arith, c.in-len1-up.len_at_least)) c.first-item.is c.index-tokens-tokens.is
