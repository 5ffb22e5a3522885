use Rattle.std.proofs.Common.{◌+◌, false, map, drop, sym, ap, ◌∙◌, arith}
use Rattle.std.proofs.lemmas.List.{drop_all}
use Rattle.cl_print.specs.Spelling.{after}
use Rattle.cl_print.specs.Expressions.{comma, listed_on}
use Rattle.cl_print.specs.Writing.{parameter_kinds}
use Rattle.cl_print.proofs.Lines.{written_more, written_all, further}
use Rattle.cl_print.proofs.writer.Writer.parameters.Goals as goal

pub loop-parameter-preserved : goal.loop-parameter-preserved
loop-parameter-preserved c =
    let l = c.loop-parameter in
    let xs = c.args.parameters.now in
    let x = c.parameter-item.result in
    let here = further (λ ys. after l.self (listed_on l.is_first (map parameter_kinds ys))) xs l.parameter-index x c.parameter-item.is (omega arith) in
    written_more l.self c.comma.new.self c.parameter.new.self _ (comma l.is_first) (parameter_kinds x) (listed_on false (map parameter_kinds (drop (l.parameter-index + 1) xs))) (sym here ∙ l.invariant) c.in_ok-comma.ensures c.in_ok-parameter.ensures

pub returns : goal.returns
returns c =
    let l = c.loop-parameter in
    written_all l.self _ _ (ap (λ ys. listed_on l.is_first (map parameter_kinds ys)) (drop_all l.parameter-index c.args.parameters.now (omega arith))) l.invariant
