use Rattle.std.proofs.Common.{arith, ap, sym, ◌∙◌, None, ◌≡◌, []}
use Rattle.cl_log.specs.Cursors.{acts_behind}
use Rattle.cl_log.proofs.Cursors.{no_blocks, no_bytes, none_left, nothing_read, block_passed}
use Rattle.cl_log.specs.Reading.{acts_at}
use Rattle.cl_log.proofs.cursor.+first_of.Goals as goal

-- src/cursor.rt:42:21
pub invariant_of-t-9 : goal.invariant_of-t-9
invariant_of-t-9 t c =
    let none = no_blocks c.args.full.now (omega (arith, c.in-empty.len_below)) in
    record { reader = nothing_read; end = λ e. ap (λ full. acts_behind full None) none }

-- src/cursor.rt:36:1
pub returns-then-is_empty : goal.returns-then-is_empty
returns-then-is_empty t c =
    let empty = none_left c.bytes-rest.result.now c.is_empty.result c.if-is_empty.true c.is_empty.ensures in
    let none : c.block-item.result.acts ≡ [] = sym c.bytes-rest.ensures.acts ∙ (ap (acts_at 0) empty ∙ no_bytes 0) in
    c.first_of.ensures ∙ block_passed c.args.full.now c.args.open c.block-item.result c.in-len1-up.len_at_least c.block-item.is none
