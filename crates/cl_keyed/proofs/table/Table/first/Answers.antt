use Rattle.std.proofs.Common.{◌≡◌, ◌+◌, ◌≤◌, List, length, map, Some, ap, sym, ◌∙◌, subst}
use Rattle.std.specs.Prelude.{OnSome}
use Rattle.cl_value.specs.Replay.{first_match, found}
use Rattle.cl_keyed.proofs.Places.{items-at}
use Rattle.cl_keyed.specs.Rows.{Row, tuple_of}
use Rattle.cl_keyed.specs.Tables.{Lines, items_at}
use Rattle.cl_keyed.proofs.table.Table.first.Goals as goal

pub returns-clause-first : goal.returns-clause-first
returns-clause-first g c =
    let at = ap (λ (t : Lines). items_at t.lines c.args.place) (sym c.self.view_is) ∙ items-at c.self.inside.lines.entries c.args.place _ c.index.ensures in
    c.first.ensures.place ∙ ap (λ rows. first_match (map tuple_of rows) c.args.template.now.items) (sym at)

pub returns-clause-read : goal.returns-clause-read
returns-clause-read g c =
    let at = ap (λ (t : Lines). items_at t.lines c.args.place) (sym c.self.view_is) ∙ items-at c.self.inside.lines.entries c.args.place _ c.index.ensures in
    let P : List Row → Type 0 = λ rows. OnSome c.first.result (found (map tuple_of rows) c.args.template.now.items ≡ Some c.first.new.into.items) in
    subst P (sym at) c.first.ensures.read

pub returns-clause-cost : goal.returns-clause-cost
returns-clause-cost g c =
    let at = ap (λ (t : Lines). items_at t.lines c.args.place) (sym c.self.view_is) ∙ items-at c.self.inside.lines.entries c.args.place _ c.index.ensures in
    let P : List Row → Type 0 = λ rows. c.first.new.steps ≤ c.args.steps.now + length rows in
    subst P (sym at) c.first.ensures.cost
