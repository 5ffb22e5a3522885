use Rattle.std.proofs.Common.{◌+◌, map, drop, sym, ap, ◌∙◌, arith}
use Rattle.std.proofs.lemmas.List.{drop_all}
use Rattle.cl_ast.specs.declared.mark.Mark.TheVariants as marks
use Rattle.cl_print.specs.Spelling.{after}
use Rattle.cl_print.specs.Expressions.{mark, behind_commas}
use Rattle.cl_print.specs.Statements.{spanned_kinds}
use Rattle.cl_print.proofs.Lines.{written_more, written_all, further}
use Rattle.cl_print.proofs.writer.Writer.more_arguments.Goals as goal

pub loop-argument-preserved : goal.loop-argument-preserved
loop-argument-preserved c =
    let l = c.loop-argument in
    let xs = c.args.arguments.now in
    let x = c.argument-item.result in
    let here = further (λ ys. after l.self (behind_commas (map spanned_kinds ys))) xs l.argument-index x c.argument-item.is (omega arith) in
    written_more l.self c.mark.new.self c.expr.new.self _ (mark marks.Comma) (spanned_kinds x) (behind_commas (map spanned_kinds (drop (l.argument-index + 1) xs))) (sym here ∙ l.invariant) c.in_ok-mark.ensures c.in_ok-expr.ensures

pub returns : goal.returns
returns c =
    let l = c.loop-argument in
    written_all l.self _ _ (ap (λ ys. behind_commas (map spanned_kinds ys)) (drop_all l.argument-index c.args.arguments.now (omega arith))) l.invariant
