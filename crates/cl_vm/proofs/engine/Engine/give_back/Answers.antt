use Rattle.std.proofs.Common.{◌∙◌, ◌-◌, ℕ, ap, subst, w64, rules}
use Rattle.std.specs.Prelude.{ℤ}
use Rattle.std.proofs.lemmas.Int.{to_z-of_z}
use Rattle.cl_vm.specs.Memory.{with_pushed}
use Rattle.cl_vm.specs.MemoryViews.{Left}
use Rattle.cl_vm.proofs.Acts.{left_again}
use Rattle.cl_vm.proofs.engine.Engine.give_back.Goals as goal

pub returns-in-Some : goal.returns-in-Some
returns-in-Some c =
    let (frame, frames, waits, place, claimed, left) = subst (λ w. Left c.one-n.new.self.memory w c.leave.new.self) c.in-Some.is c.leave.ensures in
    let z = to_z-of_z w64 c.one-n.result (search rules) in
    let pushed = c.push.ensures ∙ ap (λ (n : ℤ). with_pushed n c.leave.new.self) z ∙ ap (with_pushed c.one-n.result) left in
    let cells = c.saturating_sub-self.ensures ∙ ap (λ (n : ℕ). c.one-n.new.self.cells - n) claimed in
    (c.one-n.result, c.one-n.new.self, frame, frames, c.one-n.ensures.numbers, waits, left_again c.one-n.result c.one-n.new.self frame frames c.push.new.self c.in-Some.waiting.place c.saturating_sub-self.result pushed place cells)
