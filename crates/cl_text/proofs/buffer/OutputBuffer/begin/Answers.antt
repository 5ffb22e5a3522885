use Rattle.std.proofs.Common.{◌≡◌, ◌++◌, sym, drop, refl, ap, ◌∙◌, false}
use Rattle.cl_outside.specs.Ends.{written_of}
use Rattle.cl_text.specs.Stages.{Buffered}
use Rattle.cl_text.proofs.Stages.{broken, sent_front}
use Rattle.cl_text.proofs.buffer.OutputBuffer.begin.Goals as goal

pub returns-in-Err-Fault : goal.returns-in-Err-Fault
returns-in-Err-Fault g c =
    let e = c.in-Err-Fault.ensures in
    let n = written_of c.in-Err-Fault.field-0 in
    let all = c.args.bytes.now in
    let fine : c.args.self.now.failed ≡ false = sym (ap (λ (v : Buffered). v.failed) c.self.view_is) ∙ c.if-self.false in
    let none = c.requires fine in
    broken all (drop n all) _ _ fine refl e.later e.fault (sent_front n all _ _ c.args.self.now.pending all (ap (λ p. p ++ all) (sym none)) e.part)
