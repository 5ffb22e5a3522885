use Rattle.std.proofs.Common.{◌≡◌, drop, map}
use Rattle.cl_print.specs.Spelling.{after}
use Rattle.cl_print.specs.Expressions.{links, listed, listed_on, all_kinds, expr_said, field_kinds, link_joined}
use Rattle.cl_print.proofs.writer.Writer.+expressions.Given as goal

-- what was written and what is left are all of it
abbrev pub invariant-links-loop-link : goal.invariant-links-loop-link
invariant-links-loop-link l = after l.self (links l.limit (map link_joined (drop l.link-index l.others))) ≡ after l.fn.self (links l.limit (map link_joined l.others))

abbrev pub invariant-arguments-loop-argument : goal.invariant-arguments-loop-argument
invariant-arguments-loop-argument l =
    after l.self (listed_on l.is_first (all_kinds (map expr_said (drop l.argument-index l.arguments)))) ≡ after l.fn.self (listed (all_kinds (map expr_said l.arguments)))

abbrev pub invariant-fields-loop-field : goal.invariant-fields-loop-field
invariant-fields-loop-field l = after l.self (listed_on l.is_first (map field_kinds (drop l.field-index l.fields))) ≡ after l.fn.self (listed (map field_kinds l.fields))
