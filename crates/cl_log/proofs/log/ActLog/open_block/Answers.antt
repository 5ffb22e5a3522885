use Rattle.std.proofs.Common.{◌≡◌, ◌++◌, ◌∷◌, [], length, arith, ap, sym, subst, ◌∙◌}
use Rattle.cl_log.specs.Cursors.{AreNarrow}
use Rattle.cl_log.specs.Logs.{acts_in_blocks}
use Rattle.cl_log.proofs.Logs.{block_turned}
use Rattle.cl_log.proofs.Narrow.{block_closed}
use Rattle.cl_log.proofs.log.ActLog.open_block.Goals as goal

pub invariant_of-self-2 : goal.invariant_of-self-2
invariant_of-self-2 c =
    let full = c.self.inside.full.items in
    let closed = c.self.inside.open in
    let fresh = c.replace-before.new.dest in
    let most = c.max-longest.result in
    let all : c.push.new.self.items ≡ full ++ closed ∷ [] =
    c.push.ensures.items ∙ (ap (λ blocks. blocks ++ c.replace-before.result ∷ []) c.reserve.ensures.items ∙ ap (λ block. full ++ block ∷ []) c.replace-before.ensures.value) in
    let none = ap (λ block. block.acts) c.replace-before.ensures.after ∙ c.in_ok-block.ensures.acts in (
      c.self.invariant.0 ∙ ap length (sym (block_turned full closed fresh none) ∙ ap (λ blocks. acts_in_blocks blocks ++ fresh.acts) (sym all)),
      subst (λ blocks. AreNarrow most (acts_in_blocks blocks)) (sym all) (block_closed c.self.inside.longest c.longest.result most full closed c.self.invariant.1 c.longest.ensures (omega (arith, c.max-longest.ensures)) (omega (arith, c.max-longest.ensures))),
    )
