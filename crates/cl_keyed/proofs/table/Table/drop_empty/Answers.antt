use Rattle.std.proofs.Common.{rules, ◌≡◌, ◌==◌, true, false, length, List, ap, sym, ◌∙◌, subst}
use Rattle.cl_ground.specs.Room.{Room}
use Rattle.cl_keyed.specs.declared.key.Key.{Key}
use Rattle.cl_keyed.proofs.Fulls.{gone-full, full-all}
use Rattle.cl_keyed.proofs.Swaps.{gone}
use Rattle.cl_keyed.specs.Rows.{Row, content_of, Holds}
use Rattle.cl_keyed.specs.Tables.{Lines, Full, FullBut}
use Rattle.cl_keyed.proofs.table.Table.drop_empty.Goals as goal

pub returns-then-is_empty-clause-kept : goal.returns-then-is_empty-clause-kept
returns-then-is_empty-clause-kept c = λ field n holds.
    let was = c.self.view_is in
    let H : Lines → Type 0 = λ t. Holds field n t.lines in
    let none : length c.index.result.now.items == 0 ≡ true = sym c.is_empty.ensures ∙ c.if-is_empty.true in
    let left = gone field n c.self.inside.lines.entries c.swap_remove_index.new.self.entries c.args.place c.index.result.now c.swap_remove_index.result c.index.ensures none c.swap_remove_index.ensures.entry c.swap_remove_index.ensures.entries (subst H (sym was) holds) in
    let is : c.match-swap_remove_index.self.lines ≡ c.swap_remove_index.new.self.entries = search rules in
    let P : List (Key × Room Row) → Type 0 = λ ls. (content_of n ls ≡ content_of n c.args.self.now.lines) × Holds field n ls in
    subst P (sym is) (left.0 ∙ ap (λ (t : Lines). content_of n t.lines) was, left.1)

pub returns-then-is_empty-clause-full : goal.returns-then-is_empty-clause-full
returns-then-is_empty-clause-full c = λ but.
    let B : Lines → Type 0 = λ t. FullBut c.args.place t.lines in
    let full = gone-full c.self.inside.lines.entries c.swap_remove_index.new.self.entries c.args.place c.index.result.now c.swap_remove_index.result c.index.ensures c.swap_remove_index.ensures.entry c.swap_remove_index.ensures.entries (subst B (sym c.self.view_is) but) in
    let is : c.match-swap_remove_index.self.lines ≡ c.swap_remove_index.new.self.entries = search rules in
    let P : List (Key × Room Row) → Type 0 = λ ls. Full ls in
    subst P (sym is) full

pub returns-else-is_empty-clause-full : goal.returns-else-is_empty-clause-full
returns-else-is_empty-clause-full c = λ but.
    let B : Lines → Type 0 = λ t. FullBut c.args.place t.lines in
    let P : Lines → Type 0 = λ t. Full t.lines in
    let some : length c.index.result.now.items == 0 ≡ false = sym c.is_empty.ensures ∙ c.if-is_empty.false in
    subst P c.self.view_is (full-all c.self.inside.lines.entries c.args.place c.index.result.now c.index.ensures some (subst B (sym c.self.view_is) but))
