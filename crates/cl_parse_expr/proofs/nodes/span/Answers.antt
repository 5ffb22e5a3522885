use Rattle.std.proofs.Common.{take, ap, ◌∙◌}
use Rattle.cl_ast.specs.Trees.{span_of}
use Rattle.cl_parse_expr.specs.Steps.{plain_tokens}
use Rattle.cl_parse_expr.proofs.Spans.{taken_tokens}
use Rattle.cl_parse_expr.proofs.nodes.span.Goals as goal

pub returns : goal.returns
returns c =
    c.span_of.ensures
    ∙ ap span_of (ap (λ k. plain_tokens (take k c.args.tokens.now)) c.saturating_sub.ensures ∙ taken_tokens c.args.tokens.now c.args.rest.now)
