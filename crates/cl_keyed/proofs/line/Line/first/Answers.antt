use Rattle.std.proofs.Common.{◌≡◌, ◌<◌, length, map, Some, ap, sym, ◌∙◌}
use Rattle.std.proofs.lemmas.Option.{slice_get-get_or}
use Rattle.std.specs.Prelude.{slice_get}
use Rattle.cl_store.proofs.Matches.{view_within, view_found}
use Rattle.cl_value.specs.Replay.{first_match, found}
use Rattle.cl_ground.specs.Room.{Room}
use Rattle.cl_keyed.proofs.Places.{tuples-of_rows}
use Rattle.cl_keyed.specs.DatedRows.{values_of}
use Rattle.cl_keyed.specs.Rows.{Row, tuple_of}
use Rattle.cl_keyed.proofs.line.Line.first.Goals as goal

pub returns-clause-place : goal.returns-clause-place
returns-clause-place g c =
    c.in-Some.ensures.place ∙ (ap (λ ts. first_match ts c.args.template.now.items) (sym (tuples-of_rows c.self.inside.rows.items)) ∙ ap (λ (l : Room Row). first_match (map tuple_of l.items) c.args.template.now.items) c.self.view_is)

pub returns-clause-read : goal.returns-clause-read
returns-clause-read g c =
    let first = sym c.in-Some.ensures.place in
    let lt : c.in-Some.place < length c.self.inside.rows.items = view_within values_of c.self.inside.rows.items c.args.template.now.items c.in-Some.place first in
    let at : slice_get c.self.inside.rows.items c.in-Some.place ≡ Some c.index-row.result.now = slice_get-get_or c.self.inside.rows.items c.in-Some.place c.index-row.result.now lt ∙ ap (λ d. Some d) (sym c.index-row.ensures) in
    let is = view_found values_of c.self.inside.rows.items c.args.template.now.items c.in-Some.place c.index-row.result.now first at in
    ap (λ (l : Room Row). found (map tuple_of l.items) c.args.template.now.items) (sym c.self.view_is) ∙ (ap (λ ts. found ts c.args.template.now.items) (tuples-of_rows c.self.inside.rows.items) ∙ (is ∙ ap (λ t. Some t) (sym c.refill.ensures.fields)))

pub returns-in_default-clause-place : goal.returns-in_default-clause-place
returns-in_default-clause-place g c =
    let rows = ap (λ ts. first_match ts c.args.template.now.items) (sym (tuples-of_rows c.self.inside.rows.items)) ∙ ap (λ (l : Room Row). first_match (map tuple_of l.items) c.args.template.now.items) c.self.view_is in
    let place = c.search.ensures.place in
    cc
