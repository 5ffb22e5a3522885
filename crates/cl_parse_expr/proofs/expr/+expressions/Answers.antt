use Rattle.std.proofs.Common.{◌++◌, Ok, sym, ap, ◌∙◌}
use Rattle.cl_rules.specs.Unroll.{onwards}
use Rattle.cl_parse_expr.specs.Steps.{plain_tokens}
use Rattle.cl_parse_expr.specs.Readings.{links_reading, arguments_reading, fields_reading}
use Rattle.cl_parse_expr.proofs.Loops.{link_turn, link_last, link_shorter, argument_turn, argument_last, argument_shorter, field_turn, field_last, field_shorter}
use Rattle.cl_parse_expr.proofs.expr.+expressions.Goals as goal

pub links-loop-alloc-smaller : goal.links-loop-alloc-smaller
links-loop-alloc-smaller t c = link_shorter c.args.level c.args.nesting c.loop-alloc.rest.now c.in_ok-link.link c.in_ok-link.behind.now c.in_ok-link.ensures

pub links-loop-alloc-preserved : goal.links-loop-alloc-preserved
links-loop-alloc-preserved t c =
    c.loop-alloc.invariant
    ∙ link_turn c.args.level c.args.nesting c.loop-alloc.found c.in_ok-link.link (plain_tokens c.loop-alloc.rest.now) (plain_tokens c.in_ok-link.behind.now) (sym c.begins.ensures ∙ c.loop-alloc-test.true) c.in_ok-link.ensures
    ∙ ap (λ all. onwards (links_reading c.args.level c.args.nesting (plain_tokens c.in_ok-link.behind.now)) (λ xs us. Ok (all ++ xs, us))) (sym c.in_ok-push.ensures.ok)

pub links-returns : goal.links-returns
links-returns t c = c.loop-alloc.invariant ∙ link_last c.args.level c.args.nesting c.loop-alloc.found (plain_tokens c.loop-alloc.rest.now) (sym c.begins.ensures ∙ c.loop-alloc-test.false)

pub more_arguments-loop-alloc-smaller : goal.more_arguments-loop-alloc-smaller
more_arguments-loop-alloc-smaller t c = argument_shorter c.args.nesting c.loop-alloc.rest.now c.in_ok-next.next c.in_ok-next.behind.now c.in_ok-next.ensures

pub more_arguments-loop-alloc-preserved : goal.more_arguments-loop-alloc-preserved
more_arguments-loop-alloc-preserved t c =
    c.loop-alloc.invariant
    ∙ argument_turn c.args.nesting c.loop-alloc.all c.in_ok-next.next (plain_tokens c.loop-alloc.rest.now) (plain_tokens c.in_ok-next.behind.now) (sym c.begins.ensures ∙ c.loop-alloc-test.true) c.in_ok-next.ensures
    ∙ ap (λ all. onwards (arguments_reading c.args.nesting (plain_tokens c.in_ok-next.behind.now)) (λ xs us. Ok (all ++ xs, us))) (sym c.in_ok-push.ensures.ok)

pub more_arguments-returns : goal.more_arguments-returns
more_arguments-returns t c = c.loop-alloc.invariant ∙ argument_last c.args.nesting c.loop-alloc.all (plain_tokens c.loop-alloc.rest.now) (sym c.begins.ensures ∙ c.loop-alloc-test.false)

pub more_fields-loop-alloc-smaller : goal.more_fields-loop-alloc-smaller
more_fields-loop-alloc-smaller t c = field_shorter c.args.nesting c.loop-alloc.rest.now c.in_ok-next.next c.in_ok-next.behind.now c.in_ok-next.ensures

pub more_fields-loop-alloc-preserved : goal.more_fields-loop-alloc-preserved
more_fields-loop-alloc-preserved t c =
    c.loop-alloc.invariant
    ∙ field_turn c.args.nesting c.loop-alloc.all c.in_ok-next.next (plain_tokens c.loop-alloc.rest.now) (plain_tokens c.in_ok-next.behind.now) (sym c.begins.ensures ∙ c.loop-alloc-test.true) c.in_ok-next.ensures
    ∙ ap (λ all. onwards (fields_reading c.args.nesting (plain_tokens c.in_ok-next.behind.now)) (λ xs us. Ok (all ++ xs, us))) (sym c.in_ok-push.ensures.ok)

pub more_fields-returns : goal.more_fields-returns
more_fields-returns t c = c.loop-alloc.invariant ∙ field_last c.args.nesting c.loop-alloc.all (plain_tokens c.loop-alloc.rest.now) (sym c.begins.ensures ∙ c.loop-alloc-test.false)
