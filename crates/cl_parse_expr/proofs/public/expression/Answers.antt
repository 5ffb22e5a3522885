use Rattle.std.proofs.Common.{◌-◌, subst}
use Rattle.cl_rules.specs.Rules.{Syntax, TooDeep}
use Rattle.cl_ast.specs.Grammar as parts
use Rattle.cl_parse_expr.specs.Steps.{plain_tokens, reading, FailsAs}
use Rattle.cl_parse_expr.proofs.Verdicts.{read_at, stopped_at}
use Rattle.cl_parse_expr.proofs.public.expression.Goals as goal

pub returns-in-Ok-clause-tree : goal.returns-in-Ok-clause-tree
returns-in-Ok-clause-tree c =
    read_at (64 - c.args.depth) c.saturating_sub.result c.args.at c.saturating_sub-in-Ok.result c.args.tokens.now c.from.result.now c.in-Ok.rest.now c.in-Ok.found
    c.saturating_sub.ensures c.saturating_sub-in-Ok.ensures c.from.ensures c.in-Ok.ensures

pub returns-in-Err-Syntax-clause-refused : goal.returns-in-Err-Syntax-clause-refused
returns-in-Err-Syntax-clause-refused c =
    stopped_at (64 - c.args.depth) c.saturating_sub.result c.args.at c.place.result c.args.tokens.now c.from.result.now c.in-Err-Syntax.rest.now Syntax
    c.saturating_sub.ensures c.place.ensures c.from.ensures
    (subst (λ failure. FailsAs failure (reading parts.expr c.saturating_sub.result (plain_tokens c.from.result.now))) c.in-Err-Syntax.field-0-is c.in-Err-Syntax.ensures)

pub returns-in-Err-TooDeep-clause-refused : goal.returns-in-Err-TooDeep-clause-refused
returns-in-Err-TooDeep-clause-refused c =
    stopped_at (64 - c.args.depth) c.saturating_sub.result c.args.at c.place-in-Err-TooDeep.result c.args.tokens.now c.from.result.now c.in-Err-TooDeep.rest.now TooDeep
    c.saturating_sub.ensures c.place-in-Err-TooDeep.ensures c.from.ensures
    (subst (λ failure. FailsAs failure (reading parts.expr c.saturating_sub.result (plain_tokens c.from.result.now))) c.in-Err-TooDeep.field-0-is c.in-Err-TooDeep.ensures)
