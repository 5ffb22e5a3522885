use Rattle.std.proofs.Common.{◌≡◌, ◌++◌, Ok, length}
use Rattle.cl_rules.specs.Unroll.{onwards}
use Rattle.cl_parse_expr.specs.Steps.{plain_tokens}
use Rattle.cl_parse.specs.Readings.{more_spanned_reading}
use Rattle.cl_parse.proofs.spanned.more_spanned.Given as goal

abbrev pub invariant-loop-alloc : goal.invariant-loop-alloc
invariant-loop-alloc l =
    onwards (more_spanned_reading l.fn.nesting (plain_tokens l.fn.tokens)) (λ xs us. Ok (l.fn.found ++ xs, us))
    ≡ onwards (more_spanned_reading l.fn.nesting (plain_tokens l.rest)) (λ xs us. Ok (l.all ++ xs, us))

abbrev pub decreases-loop-alloc : goal.decreases-loop-alloc
decreases-loop-alloc l = length l.rest
