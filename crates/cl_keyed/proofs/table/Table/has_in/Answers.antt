use Rattle.std.proofs.Common.{◌+◌, ◌≤◌, List, length, map, is_some, ap, sym, ◌∙◌, subst}
use Rattle.cl_value.specs.Replay.{first_match}
use Rattle.cl_keyed.proofs.Places.{items-at}
use Rattle.cl_keyed.specs.Rows.{Row, tuple_of}
use Rattle.cl_keyed.specs.Tables.{Lines, items_at}
use Rattle.cl_keyed.proofs.table.Table.has_in.Goals as goal

pub returns-clause-value : goal.returns-clause-value
returns-clause-value g c =
    let at = ap (λ (t : Lines). items_at t.lines c.args.place) (sym c.self.view_is) ∙ items-at c.self.inside.lines.entries c.args.place _ c.index.ensures in
    c.has.ensures.value ∙ ap (λ rows. is_some (first_match (map tuple_of rows) c.args.template.now.items)) (sym at)

pub returns-clause-cost : goal.returns-clause-cost
returns-clause-cost g c =
    let at = ap (λ (t : Lines). items_at t.lines c.args.place) (sym c.self.view_is) ∙ items-at c.self.inside.lines.entries c.args.place _ c.index.ensures in
    let P : List Row → Type 0 = λ rows. c.has.new.steps ≤ c.args.steps.now + length rows in
    subst P (sym at) c.has.ensures.cost
