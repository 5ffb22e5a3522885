use Rattle.std.proofs.Common.{◌+◌, map, drop, sym, ap, ◌∙◌, arith}
use Rattle.std.proofs.lemmas.List.{drop_all}
use Rattle.cl_print.specs.Spelling.{after}
use Rattle.cl_print.specs.Statements.{closed, in_order, stmt_line}
use Rattle.cl_print.proofs.Lines.{written_one, written_all, further}
use Rattle.cl_print.proofs.writer.Writer.+statements.Goals as goal

pub statements-loop-stmt-preserved : goal.statements-loop-stmt-preserved
statements-loop-stmt-preserved t c =
    let l = c.loop-stmt in
    let xs = c.args.statements.now in
    let x = c.stmt-item.result in
    let here = further (λ ys. after l.self (in_order (map stmt_line ys))) xs l.stmt-index x c.stmt-item.is (omega arith) in
    written_one l.self c.statement.new.self _ (closed (stmt_line x)) (in_order (map stmt_line (drop (l.stmt-index + 1) xs))) (sym here ∙ l.invariant) c.in_ok-statement.ensures

pub statements-returns : goal.statements-returns
statements-returns t c =
    let l = c.loop-stmt in
    written_all l.self _ _ (ap (λ ys. in_order (map stmt_line ys)) (drop_all l.stmt-index c.args.statements.now (omega arith))) l.invariant
