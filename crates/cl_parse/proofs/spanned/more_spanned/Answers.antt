use Rattle.std.proofs.Common.{◌++◌, Ok, sym, ap, ◌∙◌}
use Rattle.cl_rules.specs.Unroll.{onwards}
use Rattle.cl_parse_expr.specs.Steps.{plain_tokens}
use Rattle.cl_parse.specs.Readings.{more_spanned_reading}
use Rattle.cl_parse.proofs.Loops.{spanned_turn, spanned_last, spanned_shorter}
use Rattle.cl_parse.proofs.spanned.more_spanned.Goals as goal

pub loop-alloc-smaller : goal.loop-alloc-smaller
loop-alloc-smaller c = spanned_shorter c.args.nesting c.loop-alloc.rest.now c.in_ok-next.behind.now c.in_ok-next.next c.in_ok-next.ensures

pub loop-alloc-preserved : goal.loop-alloc-preserved
loop-alloc-preserved c =
    c.loop-alloc.invariant
    ∙ spanned_turn c.args.nesting c.loop-alloc.all c.in_ok-next.next (plain_tokens c.loop-alloc.rest.now) (plain_tokens c.in_ok-next.behind.now) (sym c.begins.ensures ∙ c.loop-alloc-test.true) c.in_ok-next.ensures
    ∙ ap (λ all. onwards (more_spanned_reading c.args.nesting (plain_tokens c.in_ok-next.behind.now)) (λ xs us. Ok (all ++ xs, us))) (sym c.in_ok-push.ensures.ok)

pub returns : goal.returns
returns c = c.loop-alloc.invariant ∙ spanned_last c.args.nesting c.loop-alloc.all (plain_tokens c.loop-alloc.rest.now) (sym c.begins.ensures ∙ c.loop-alloc-test.false)
