use Rattle.std.proofs.Common.{◌++◌, Ok, sym, ap, ◌∙◌}
use Rattle.cl_rules.specs.Unroll.{onwards}
use Rattle.cl_parse_expr.specs.Steps.{plain_tokens}
use Rattle.cl_parse.specs.Readings.{inners_reading}
use Rattle.cl_parse.proofs.Loops.{inner_turn, inner_last, inner_shorter}
use Rattle.cl_parse.proofs.statement.+statements.Goals as goal

pub inners-loop-alloc-smaller : goal.inners-loop-alloc-smaller
inners-loop-alloc-smaller t c = inner_shorter c.args.nesting c.loop-alloc.rest.now c.in_ok-next.behind.now c.in_ok-next.next c.in_ok-next.ensures

pub inners-loop-alloc-preserved : goal.inners-loop-alloc-preserved
inners-loop-alloc-preserved t c =
    c.loop-alloc.invariant
    ∙ inner_turn c.args.nesting c.loop-alloc.found c.in_ok-next.next (plain_tokens c.loop-alloc.rest.now) (plain_tokens c.in_ok-next.behind.now) (sym c.begins.ensures ∙ c.loop-alloc-test.true) c.in_ok-next.ensures
    ∙ ap (λ all. onwards (inners_reading c.args.nesting (plain_tokens c.in_ok-next.behind.now)) (λ xs us. Ok (all ++ xs, us))) (sym c.in_ok-push.ensures.ok)

pub inners-returns : goal.inners-returns
inners-returns t c = c.loop-alloc.invariant ∙ inner_last c.args.nesting c.loop-alloc.found (plain_tokens c.loop-alloc.rest.now) (sym c.begins.ensures ∙ c.loop-alloc-test.false)
