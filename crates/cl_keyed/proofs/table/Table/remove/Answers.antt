use Rattle.std.proofs.Common.{◌<◌, length, ap, sym, ◌∙◌, subst, remove, List}
use Rattle.cl_keyed.proofs.Places.{items-at}
use Rattle.cl_keyed.specs.Rows.{Row}
use Rattle.cl_keyed.specs.Tables.{Lines, items_at}
use Rattle.indexmap.specs.IndexMap.{set_value_at}
use Rattle.cl_keyed.proofs.table.Table.remove.Goals as goal

pub remove-requires : goal.remove-requires
remove-requires c =
    let P : List Row → Type 0 = λ rows. c.args.at < length rows in
    subst P (ap (λ (t : Lines). items_at t.lines c.args.place) (sym c.self.view_is) ∙ items-at c.self.inside.lines.entries c.args.place _ c.index_mut-line.ensures.value) c.requires.at

pub returns : goal.returns
returns c =
    let at = ap (λ (t : Lines). items_at t.lines c.args.place) (sym c.self.view_is) ∙ items-at c.self.inside.lines.entries c.args.place _ c.index_mut-line.ensures.value in
    (c.remove.new.self, (ap (λ (t : Lines). set_value_at t.lines c.args.place c.remove.new.self) c.self.view_is, c.remove.ensures.items ∙ ap (λ rows. remove rows c.args.at) (sym at)))
