use Rattle.std.proofs.Common.{sym, ◌∙◌, arith}
use Rattle.cl_token.proofs.Characters.{string_goes, row_goes}
use Rattle.cl_token.proofs.literal.string_row.Goals as goal

pub loop-byte-preserved : goal.loop-byte-preserved
loop-byte-preserved c =
    record {
      text = rw (c.push.ensures.items, c.reserve.ensures.items) (row_goes c.loop-byte.text.items c.loop-byte.rest.now c.in-Some.byte c.in-Some.behind.now _ (sym c.in-Some.ensures.value) c.loop-byte.invariant.text);
      rest = sym (string_goes c.loop-byte.rest.now c.in-Some.byte c.in-Some.behind.now (sym c.in-Some.ensures.value)).after ∙ c.loop-byte.invariant.rest;
      within = omega (arith, c.in-Some.ensures.within);
    }
