-- A call goes down in nesting, or at one nesting from lists to fields, expressions, levels and operands.
use Rattle.std.proofs.Common.{◌≡◌, ◌++◌, Ok, ◌+◌, ◌*◌, length}
use Rattle.cl_rules.specs.Unroll.{onwards}
use Rattle.cl_parse_expr.specs.Classes.{level_number}
use Rattle.cl_parse_expr.specs.Steps.{plain_tokens}
use Rattle.cl_parse_expr.specs.Readings.{links_reading, arguments_reading, fields_reading}
use Rattle.cl_parse_expr.proofs.expr.+expressions.Given as goal

abbrev pub decreases-bracketed : goal.decreases-bracketed
decreases-bracketed l = 1024 * l.nesting + 0

abbrev pub decreases-prefixed : goal.decreases-prefixed
decreases-prefixed l = 1024 * l.nesting + 0

abbrev pub decreases-index : goal.decreases-index
decreases-index l = 1024 * l.nesting + 0

abbrev pub decreases-arguments : goal.decreases-arguments
decreases-arguments l = 1024 * l.nesting + 0

abbrev pub decreases-fields : goal.decreases-fields
decreases-fields l = 1024 * l.nesting + 0

abbrev pub decreases-named : goal.decreases-named
decreases-named l = 1024 * l.nesting + 1

abbrev pub decreases-place : goal.decreases-place
decreases-place l = 1024 * l.nesting + 1

abbrev pub decreases-primary : goal.decreases-primary
decreases-primary l = 1024 * l.nesting + 2

abbrev pub decreases-unary : goal.decreases-unary
decreases-unary l = 1024 * l.nesting + 3

abbrev pub decreases-argument : goal.decreases-argument
decreases-argument l = 1024 * l.nesting + 50

abbrev pub decreases-more_arguments : goal.decreases-more_arguments
decreases-more_arguments l = 1024 * l.nesting + 51

abbrev pub decreases-listed : goal.decreases-listed
decreases-listed l = 1024 * l.nesting + 52

abbrev pub decreases-field : goal.decreases-field
decreases-field l = 1024 * l.nesting + 60

abbrev pub decreases-next_field : goal.decreases-next_field
decreases-next_field l = 1024 * l.nesting + 61

abbrev pub decreases-more_fields : goal.decreases-more_fields
decreases-more_fields l = 1024 * l.nesting + 62

abbrev pub decreases-operand : goal.decreases-operand
decreases-operand l = 1024 * l.nesting + 8 * level_number l.level + 4

abbrev pub decreases-link : goal.decreases-link
decreases-link l = 1024 * l.nesting + 8 * level_number l.level + 5

abbrev pub decreases-links : goal.decreases-links
decreases-links l = 1024 * l.nesting + 8 * level_number l.level + 6

abbrev pub decreases-level : goal.decreases-level
decreases-level l = 1024 * l.nesting + 8 * level_number l.level + 7

abbrev pub invariant-links-loop-alloc : goal.invariant-links-loop-alloc
invariant-links-loop-alloc l =
    links_reading l.fn.level l.fn.nesting (plain_tokens l.fn.tokens) ≡ onwards (links_reading l.fn.level l.fn.nesting (plain_tokens l.rest)) (λ xs us. Ok (l.found ++ xs, us))

abbrev pub decreases-links-loop-alloc : goal.decreases-links-loop-alloc
decreases-links-loop-alloc l = length l.rest

abbrev pub invariant-more_arguments-loop-alloc : goal.invariant-more_arguments-loop-alloc
invariant-more_arguments-loop-alloc l =
    onwards (arguments_reading l.fn.nesting (plain_tokens l.fn.tokens)) (λ xs us. Ok (l.fn.found ++ xs, us))
    ≡ onwards (arguments_reading l.fn.nesting (plain_tokens l.rest)) (λ xs us. Ok (l.all ++ xs, us))

abbrev pub decreases-more_arguments-loop-alloc : goal.decreases-more_arguments-loop-alloc
decreases-more_arguments-loop-alloc l = length l.rest

abbrev pub invariant-more_fields-loop-alloc : goal.invariant-more_fields-loop-alloc
invariant-more_fields-loop-alloc l =
    onwards (fields_reading l.fn.nesting (plain_tokens l.fn.tokens)) (λ xs us. Ok (l.fn.found ++ xs, us))
    ≡ onwards (fields_reading l.fn.nesting (plain_tokens l.rest)) (λ xs us. Ok (l.all ++ xs, us))

abbrev pub decreases-more_fields-loop-alloc : goal.decreases-more_fields-loop-alloc
decreases-more_fields-loop-alloc l = length l.rest
