use Rattle.std.proofs.Common.{◌+◌, false, map, drop, sym, ap, ◌∙◌, arith}
use Rattle.std.proofs.lemmas.List.{drop_all}
use Rattle.cl_print.specs.Spelling.{after}
use Rattle.cl_print.specs.Expressions.{comma, listed_on}
use Rattle.cl_print.specs.Statements.{declarator_kinds}
use Rattle.cl_print.proofs.Lines.{written_more, written_all, further}
use Rattle.cl_print.proofs.writer.Writer.declarators.Goals as goal

pub loop-declarator-preserved : goal.loop-declarator-preserved
loop-declarator-preserved c =
    let l = c.loop-declarator in
    let xs = c.args.declarators.now in
    let x = c.declarator-item.result in
    let here = further (λ ys. after l.self (listed_on l.is_first (map declarator_kinds ys))) xs l.declarator-index x c.declarator-item.is (omega arith) in
    written_more l.self c.comma.new.self c.declarator.new.self _ (comma l.is_first) (declarator_kinds x) (listed_on false (map declarator_kinds (drop (l.declarator-index + 1) xs))) (sym here ∙ l.invariant) c.in_ok-comma.ensures c.in_ok-declarator.ensures

pub returns : goal.returns
returns c =
    let l = c.loop-declarator in
    written_all l.self _ _ (ap (λ ys. listed_on l.is_first (map declarator_kinds ys)) (drop_all l.declarator-index c.args.declarators.now (omega arith))) l.invariant
