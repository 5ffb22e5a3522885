-- A call goes down in nesting, or at one nesting from lists to statements, their bodies and blocks.
use Rattle.std.proofs.Common.{◌≡◌, ◌++◌, Ok, ◌+◌, ◌*◌, length}
use Rattle.cl_rules.specs.Unroll.{onwards}
use Rattle.cl_parse_expr.specs.Steps.{plain_tokens}
use Rattle.cl_parse.specs.Readings.{inners_reading}
use Rattle.cl_parse.proofs.statement.+statements.Given as goal

abbrev pub decreases-block : goal.decreases-block
decreases-block l = 16 * l.nesting + 0

abbrev pub decreases-nested : goal.decreases-nested
decreases-nested l = 16 * l.nesting + 0

abbrev pub decreases-body : goal.decreases-body
decreases-body l = 16 * l.nesting + 1

abbrev pub decreases-otherwise : goal.decreases-otherwise
decreases-otherwise l = 16 * l.nesting + 2

abbrev pub decreases-if_else : goal.decreases-if_else
decreases-if_else l = 16 * l.nesting + 3

abbrev pub decreases-while_loop : goal.decreases-while_loop
decreases-while_loop l = 16 * l.nesting + 3

abbrev pub decreases-do_loop : goal.decreases-do_loop
decreases-do_loop l = 16 * l.nesting + 3

abbrev pub decreases-for_loop : goal.decreases-for_loop
decreases-for_loop l = 16 * l.nesting + 3

abbrev pub decreases-plain : goal.decreases-plain
decreases-plain l = 16 * l.nesting + 4

abbrev pub decreases-statement : goal.decreases-statement
decreases-statement l = 16 * l.nesting + 5

abbrev pub decreases-inner : goal.decreases-inner
decreases-inner l = 16 * l.nesting + 6

abbrev pub decreases-inners : goal.decreases-inners
decreases-inners l = 16 * l.nesting + 7

abbrev pub invariant-inners-loop-alloc : goal.invariant-inners-loop-alloc
invariant-inners-loop-alloc l =
    inners_reading l.fn.nesting (plain_tokens l.fn.tokens) ≡ onwards (inners_reading l.fn.nesting (plain_tokens l.rest)) (λ xs us. Ok (l.found ++ xs, us))

abbrev pub decreases-inners-loop-alloc : goal.decreases-inners-loop-alloc
decreases-inners-loop-alloc l = length l.rest
