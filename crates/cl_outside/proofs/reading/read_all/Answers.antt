use Rattle.std.proofs.Common.{◌≡◌, ◌≤◌, ◌++◌, length, take, drop, ℕ, ap, arith, length-take, length-append, rules}
use Rattle.std.proofs.lemmas.List.{take-append-le}
use Rattle.cl_outside.proofs.Streams.{takes_more, takes_all}
use Rattle.cl_outside.proofs.reading.read_all.Goals as goal

pub returns-in-Ok-eq0-clause-all : goal.returns-in-Ok-eq0-clause-all
returns-in-Ok-eq0-clause-all g c =
    takes_all c.loop-buffer.all.items _ _ _ _ _ _ c.reserve.ensures.items c.in-Ok-eq0.field-0-test c.loop-buffer.invariant.taken c.in-Ok-eq0.ensures.bytes c.in-Ok-eq0.ensures.end

pub loop-buffer-preserved : goal.loop-buffer-preserved
loop-buffer-preserved g c =
    let within : c.in-Ok.count ≤ length c.read.new.into = search rules in
    let front : take c.in-Ok.count (c.read.new.into ++ drop c.min-want.result c.loop-buffer.buffer) ≡ take c.in-Ok.count c.read.new.into = take-append-le _ _ _ within in
    let more : c.push_all.new.self.items ≡ c.loop-buffer.all.items ++ take c.in-Ok.count c.read.new.into = cc (c.push_all.ensures.items, c.reserve.ensures.items, front) in
    record {
      few = omega (arith, length-take {A = ℕ}, length-append {A = ℕ}, ap length more);
      buffer = search rules;
      taken = takes_more c.loop-buffer.all.items _ _ _ _ _ _ more within c.loop-buffer.invariant.taken c.in-Ok.ensures.bytes;
      kept = search rules;
    }
