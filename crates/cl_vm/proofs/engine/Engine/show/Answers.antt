use Rattle.std.proofs.Common.{◌≡◌, ◌∙◌, ℕ, List, Bool, true, false, Some, refl, ap, sym, subst, take}
use Rattle.std.specs.Prelude.{ℤ, reverse}
use Rattle.std.proofs.lemmas.Option.{same_Some}
use Rattle.cl_code.specs.Formats.{pieces, count_of, printed}
use Rattle.cl_vm.specs.Memory.{Memory, with_dropped}
use Rattle.cl_vm.specs.Printing.{Prints, Added}
use Rattle.cl_vm.proofs.engine.Engine.show.Goals as goal

pub returns-then-not-done : goal.returns-then-not-done
returns-then-not-done c =
    let n = c.requires in
    let same : n.text ≡ c.format_text-text.result.now = same_Some n.text c.format_text-text.result.now (sym n.is ∙ c.format_text-text.ensures) in
    let parts : pieces c.format_text-text.result.now ≡ Some n.all = ap (λ (t : List ℕ). pieces t) (sym same) ∙ n.parts in
    let count = c.count_numbers-count.ensures n.all parts in
    let numbers : c.top.result.now ≡ reverse (take (count_of n.all) c.args.self.now.memory.stack) = c.top.ensures ∙ ap (λ (k : ℕ). reverse (take k c.args.self.now.memory.stack)) count in
    let prints = subst (λ (done : Bool). Prints c.args.self.now.output.items done c.print_text-done.new.output.items c.format_text-text.result.now c.top.result.now) c.if-not-done.true c.print_text-done.ensures.prints in
    let added = subst (λ (ns : List ℤ). Added c.args.self.now.output.items false (printed n.all ns) c.print_text-done.new.output.items) numbers (prints n.all parts) in
    record { text = n.text; is = n.is; all = n.all; parts = n.parts; enough = n.enough; shown = (refl, added.1, added.0) }

pub returns : goal.returns
returns c =
    let n = c.requires in
    let same : n.text ≡ c.format_text-text.result.now = same_Some n.text c.format_text-text.result.now (sym n.is ∙ c.format_text-text.ensures) in
    let parts : pieces c.format_text-text.result.now ≡ Some n.all = ap (λ (t : List ℕ). pieces t) (sym same) ∙ n.parts in
    let count = c.count_numbers-count.ensures n.all parts in
    let numbers : c.top.result.now ≡ reverse (take (count_of n.all) c.args.self.now.memory.stack) = c.top.ensures ∙ ap (λ (k : ℕ). reverse (take k c.args.self.now.memory.stack)) count in
    let prints = subst (λ (done : Bool). Prints c.args.self.now.output.items done c.print_text-done.new.output.items c.format_text-text.result.now c.top.result.now) c.if-not-done.false c.print_text-done.ensures.prints in
    let added = subst (λ (ns : List ℤ). Added c.args.self.now.output.items true (printed n.all ns) c.print_text-done.new.output.items) numbers (prints n.all parts) in
    let memory = c.drop_top.ensures ∙ ap (λ (k : ℕ). with_dropped k c.args.self.now.memory) count in
    record { text = n.text; is = n.is; all = n.all; parts = n.parts; enough = n.enough; shown = (added.0, added.1, c.print_text-done.ensures.capacity, ap (λ (m : Memory). record c.args.self.now { memory = m; output = c.print_text-done.new.output }) memory) }
