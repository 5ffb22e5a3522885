use Rattle.std.proofs.Common.{◌+◌, false, map, drop, sym, ap, ◌∙◌, arith}
use Rattle.std.proofs.lemmas.List.{drop_all}
use Rattle.cl_print.specs.Spelling.{after}
use Rattle.cl_print.specs.Expressions.{mark, operator_mark, operand, links, comma, listed_on, all_kinds, expr_said, field_kinds, link_joined}
use Rattle.cl_print.proofs.Lines.{written_more, written_pair, written_all, further}
use Rattle.cl_print.proofs.writer.Writer.+expressions.Goals as goal

pub arguments-loop-argument-preserved : goal.arguments-loop-argument-preserved
arguments-loop-argument-preserved t c =
    let l = c.loop-argument in
    let xs = c.args.arguments.now in
    let x = c.argument-item.result in
    let here = further (λ ys. after l.self (listed_on l.is_first (all_kinds (map expr_said ys)))) xs l.argument-index x c.argument-item.is (omega arith) in
    written_more l.self c.comma.new.self c.expr.new.self _ (comma l.is_first) (expr_said x).kinds (listed_on false (all_kinds (map expr_said (drop (l.argument-index + 1) xs)))) (sym here ∙ l.invariant) c.in_ok-comma.ensures c.in_ok-expr.ensures

pub arguments-returns : goal.arguments-returns
arguments-returns t c =
    let l = c.loop-argument in
    written_all l.self _ _ (ap (λ ys. listed_on l.is_first (all_kinds (map expr_said ys))) (drop_all l.argument-index c.args.arguments.now (omega arith))) l.invariant

pub fields-loop-field-preserved : goal.fields-loop-field-preserved
fields-loop-field-preserved t c =
    let l = c.loop-field in
    let xs = c.args.fields.now in
    let x = c.field-item.result in
    let here = further (λ ys. after l.self (listed_on l.is_first (map field_kinds ys))) xs l.field-index x c.field-item.is (omega arith) in
    written_more l.self c.comma.new.self c.field.new.self _ (comma l.is_first) (field_kinds x) (listed_on false (map field_kinds (drop (l.field-index + 1) xs))) (sym here ∙ l.invariant) c.in_ok-comma.ensures c.in_ok-field.ensures

pub fields-returns : goal.fields-returns
fields-returns t c =
    let l = c.loop-field in
    written_all l.self _ _ (ap (λ ys. listed_on l.is_first (map field_kinds ys)) (drop_all l.field-index c.args.fields.now (omega arith))) l.invariant

pub links-loop-link-preserved : goal.links-loop-link-preserved
links-loop-link-preserved t c =
    let l = c.loop-link in
    let xs = c.args.others.now in
    let x = c.link-item.result in
    let j = link_joined x in
    let here = further (λ ys. after l.self (links c.args.limit (map link_joined ys))) xs l.link-index x c.link-item.is (omega arith) in
    written_pair l.self c.link.new.self _ (mark (operator_mark j.operator)) (operand c.args.limit j.operand) (links c.args.limit (map link_joined (drop (l.link-index + 1) xs))) (sym here ∙ l.invariant) c.in_ok-link.ensures

pub links-returns : goal.links-returns
links-returns t c =
    let l = c.loop-link in
    written_all l.self _ _ (ap (λ ys. links c.args.limit (map link_joined ys)) (drop_all l.link-index c.args.others.now (omega arith))) l.invariant
