use Rattle.std.proofs.Common.{◌<◌, ◌∷◌, [], ◌++◌, ap, sym, ◌∙◌, subst, ℕ}
use Rattle.cl_keyed.proofs.Places.{items-at, spare-at}
use Rattle.cl_keyed.specs.Tables.{Lines, items_at, spare_at}
use Rattle.indexmap.specs.IndexMap.{set_value_at}
use Rattle.cl_keyed.proofs.table.Table.push.Goals as goal

pub push-requires : goal.push-requires
push-requires c =
    let P : ℕ → Type 0 = λ n. 0 < n in
    subst P (ap (λ (t : Lines). spare_at t.lines c.args.place) (sym c.self.view_is) ∙ spare-at c.self.inside.lines.entries c.args.place _ c.index_mut-line.ensures.value) c.requires.room

pub returns : goal.returns
returns c =
    let at = ap (λ (t : Lines). items_at t.lines c.args.place) (sym c.self.view_is) ∙ items-at c.self.inside.lines.entries c.args.place _ c.index_mut-line.ensures.value in
    (c.push.new.self, (ap (λ (t : Lines). set_value_at t.lines c.args.place c.push.new.self) c.self.view_is, c.push.ensures.items ∙ ap (λ rows. rows ++ record { number = c.args.number; tuple = c.args.tuple.items } ∷ []) (sym at)))
