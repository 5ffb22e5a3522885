use Rattle.std.proofs.Common.{subst, arith}
use Rattle.cl_rules.specs.Rules.{Syntax, TooDeep}
use Rattle.cl_parse_expr.specs.Steps.{plain_tokens, FailsAs}
use Rattle.cl_parse.specs.Readings.{items_reading}
use Rattle.cl_parse.proofs.Verdicts.{tree_at, left_at, stopped_at}
use Rattle.cl_parse.proofs.unit.parse.Goals as goal

pub returns-in-Ok-default-empty-clause-tree : goal.returns-in-Ok-default-empty-clause-tree
returns-in-Ok-default-empty-clause-tree c =
    tree_at 64 c.args.tokens.now c.in-Ok-default-empty.field-0-1.now c.in-Ok-default-empty.items (omega (arith, c.in-Ok-default-empty.len_below)) c.in-Ok-default-empty.ensures

pub returns-in-Ok-clause-refused : goal.returns-in-Ok-clause-refused
returns-in-Ok-clause-refused c =
    left_at 64 c.place.result c.args.tokens.now c.in-Ok.rest.now c.in-Ok.field-0-0 c.place.ensures (omega (arith, c.in-Ok.len_at_least)) c.in-Ok.ensures

pub returns-in-Err-Syntax-clause-refused : goal.returns-in-Err-Syntax-clause-refused
returns-in-Err-Syntax-clause-refused c =
    stopped_at 64 c.place-in-Err-Syntax.result c.args.tokens.now c.in-Err-Syntax.rest.now Syntax c.place-in-Err-Syntax.ensures
    (subst (λ failure. FailsAs failure (items_reading 64 (plain_tokens c.args.tokens.now))) c.in-Err-Syntax.field-0-is c.in-Err-Syntax.ensures)

pub returns-in-Err-TooDeep-clause-refused : goal.returns-in-Err-TooDeep-clause-refused
returns-in-Err-TooDeep-clause-refused c =
    stopped_at 64 c.place-in-Err-TooDeep.result c.args.tokens.now c.in-Err-TooDeep.rest.now TooDeep c.place-in-Err-TooDeep.ensures
    (subst (λ failure. FailsAs failure (items_reading 64 (plain_tokens c.args.tokens.now))) c.in-Err-TooDeep.field-0-is c.in-Err-TooDeep.ensures)
