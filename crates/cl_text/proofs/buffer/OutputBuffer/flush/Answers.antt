use Rattle.std.proofs.Common.{◌≡◌, [], sym, append-nil, drop, refl, ap, ◌∙◌, false, rules}
use Rattle.cl_outside.specs.Ends.{written_of}
use Rattle.cl_text.specs.Stages.{Buffered}
use Rattle.cl_text.proofs.Stages.{broken, sent_front}
use Rattle.cl_text.proofs.buffer.OutputBuffer.flush.Goals as goal

pub returns-in-Err-Fault-clause-puts : goal.returns-in-Err-Fault-clause-puts
returns-in-Err-Fault-clause-puts g c =
    let e = c.in-Err-Fault.ensures in
    let n = written_of c.in-Err-Fault.field-0 in
    let all = c.self.inside.bytes.items in
    let fine : c.args.self.now.failed ≡ false = sym (ap (λ (v : Buffered). v.failed) c.self.view_is) ∙ c.if-self.false in
    let held : c.args.self.now.pending ≡ all = sym (ap (λ (v : Buffered). v.pending) c.self.view_is) in
    broken [] (drop n all) _ _ fine refl e.later e.fault (sent_front n [] _ _ c.args.self.now.pending all (sym (append-nil c.args.self.now.pending ∙ held)) (search rules))
