use Rattle.std.proofs.Common.{◌+◌, drop, sym, ap, ◌∙◌, arith}
use Rattle.std.proofs.lemmas.List.{drop_all}
use Rattle.cl_print.specs.Spelling.{after_all}
use Rattle.cl_print.specs.Writing.{item_written, written}
use Rattle.cl_print.proofs.Lines.{further}
use Rattle.cl_print.proofs.ItemLines.{after_all_both, after_all_none}
use Rattle.cl_print.proofs.writer.Writer.items.Goals as goal

pub loop-item-preserved : goal.loop-item-preserved
loop-item-preserved c =
    let l = c.loop-item in
    let xs = c.args.items.now in
    let x = c.item-item.result in
    let rest = written (drop (l.item-index + 1) xs) in
    ap (λ b. after_all b rest) c.in_ok-item.ensures
    ∙ sym (after_all_both l.self (item_written x) rest)
    ∙ sym (further (λ ys. after_all l.self (written ys)) xs l.item-index x c.item-item.is (omega arith))
    ∙ l.invariant

pub returns : goal.returns
returns c =
    let l = c.loop-item in
    sym (after_all_none l.self) ∙ sym (ap (λ ys. after_all l.self (written ys)) (drop_all l.item-index c.args.items.now (omega arith))) ∙ l.invariant
