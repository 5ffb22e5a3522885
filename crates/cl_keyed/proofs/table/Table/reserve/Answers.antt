use Rattle.std.proofs.Common.{◌<◌, ap, sym, ◌∙◌, subst, ℕ}
use Rattle.cl_keyed.proofs.Places.{items-at, spare-at}
use Rattle.cl_keyed.specs.Tables.{Lines, items_at, spare_at}
use Rattle.indexmap.specs.IndexMap.{set_value_at}
use Rattle.cl_keyed.proofs.table.Table.reserve.Goals as goal

pub returns-clause-lines : goal.returns-clause-lines
returns-clause-lines c =
    let at = ap (λ (t : Lines). items_at t.lines c.args.place) (sym c.self.view_is) ∙ items-at c.self.inside.lines.entries c.args.place _ c.index_mut-line.ensures.value in
    let room = ap (λ (t : Lines). spare_at t.lines c.args.place) (sym c.self.view_is) ∙ spare-at c.self.inside.lines.entries c.args.place _ c.index_mut-line.ensures.value in
    let P : ℕ → Type 0 = λ n. 0 < n in
    (c.reserve.new.self, (ap (λ (t : Lines). set_value_at t.lines c.args.place c.reserve.new.self) c.self.view_is, c.reserve.ensures.items ∙ sym at, c.reserve.ensures.room, λ h. c.reserve.ensures.kept (subst P room h)))
