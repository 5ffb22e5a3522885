use Rattle.std.proofs.Common.{map, remove, ap, ◌∙◌}
use Rattle.cl_store.proofs.Matches.{map-remove}
use Rattle.cl_ground.specs.Room.{Room}
use Rattle.cl_keyed.proofs.Places.{on-some}
use Rattle.cl_keyed.specs.DatedRows.{row_of}
use Rattle.cl_keyed.specs.Rows.{Row}
use Rattle.cl_keyed.proofs.line.Line.remove.Goals as goal

pub returns : goal.returns
returns c =
    let hit = on-some c.remove.result _ c.if-is_none.ensures c.remove.ensures.items in
    record { items = ap (map row_of) hit ∙ (map-remove row_of c.self.inside.rows.items c.args.place ∙ ap (λ (l : Room Row). remove l.items c.args.place) c.self.view_is) }
