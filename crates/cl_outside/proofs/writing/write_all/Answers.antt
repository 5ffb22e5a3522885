use Rattle.std.proofs.Common.{ℕ, arith, length-drop, take_all, rules}
use Rattle.cl_outside.proofs.Streams.{appends_more}
use Rattle.cl_outside.proofs.writing.write_all.Goals as goal

pub loop-written-preserved : goal.loop-written-preserved
loop-written-preserved g c =
    record {
      few = search rules;
      part = appends_more _ _ _ _ _ _ _ (take_all _ _ (omega (arith, length-drop {A = ℕ}))) c.loop-written.invariant.part c.in-Ok.ensures.bytes;
      kept = search rules;
    }
