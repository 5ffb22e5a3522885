use Rattle.std.proofs.Common.{subst, map, drop, ap, ◌∙◌, Err}
use Rattle.std.specs.Prelude.{Result}
use Rattle.cl_rules.specs.Rules.{Syntax, TooDeep}
use Rattle.cl_ast.specs.Views.{plain_token}
use Rattle.cl_ast.specs.declared.parse_end.ParseEnd.{ParseEnd}
use Rattle.cl_ast.specs.declared.statement.Unit.{Unit as Source}
use Rattle.cl_parse.specs.Unit.{IsStopped, IsRefused}
use Rattle.cl_front.proofs.FrontLaws.{tree_read, parse_refuses}
use Rattle.cl_front.proofs.front.read_tokens.Goals as goal

pub returns-in-Ok-clause-found : goal.returns-in-Ok-clause-found
returns-in-Ok-clause-found c = tree_read c.args.source.now (map plain_token c.args.tokens.now) c.requires.split c.in-Ok.unit.items c.in-Ok.ensures.tree c.requires.size

pub returns-in-Err-Syntax-clause-refused : goal.returns-in-Err-Syntax-clause-refused
returns-in-Err-Syntax-clause-refused c =
    let was = c.in-Err-Syntax.is ∙ ap (λ e. Err e) c.in-Err-Syntax.field-0-is in
    let stopped : IsStopped 64 (map plain_token c.args.tokens.now) Syntax (drop c.in-Err-Syntax.token (map plain_token c.args.tokens.now)) =
    subst (λ (r : Result Source ParseEnd). IsRefused 64 (map plain_token c.args.tokens.now) r) was c.parse.ensures.refused in
    parse_refuses c.args.source.now (map plain_token c.args.tokens.now) c.requires.split Syntax c.in-Err-Syntax.token c.refused_at.result stopped c.refused_at.ensures

pub returns-in-Err-TooDeep-clause-refused : goal.returns-in-Err-TooDeep-clause-refused
returns-in-Err-TooDeep-clause-refused c =
    let was = c.in-Err-TooDeep.is ∙ ap (λ e. Err e) c.in-Err-TooDeep.field-0-is in
    let stopped : IsStopped 64 (map plain_token c.args.tokens.now) TooDeep (drop c.in-Err-TooDeep.token (map plain_token c.args.tokens.now)) =
    subst (λ (r : Result Source ParseEnd). IsRefused 64 (map plain_token c.args.tokens.now) r) was c.parse.ensures.refused in
    parse_refuses c.args.source.now (map plain_token c.args.tokens.now) c.requires.split TooDeep c.in-Err-TooDeep.token c.refused_at-in-Err-TooDeep.result stopped c.refused_at-in-Err-TooDeep.ensures
