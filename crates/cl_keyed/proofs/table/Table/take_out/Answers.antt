use Rattle.std.proofs.Common.{◌<◌, length, List, sym, ◌∙◌, subst}
use Rattle.indexmap.specs.Layout.{length-set_value_at}
use Rattle.cl_ground.specs.Room.{Room}
use Rattle.cl_keyed.proofs.Fulls.{full-set_but}
use Rattle.cl_keyed.specs.Tables.{FullBut}
use Rattle.cl_keyed.proofs.Rooms.{taken_out}
use Rattle.cl_keyed.specs.Rows.{Row}
use Rattle.cl_keyed.specs.declared.key.Key.{Key}
use Rattle.cl_keyed.proofs.table.Table.take_out.Goals as goal

pub drop_empty-requires : goal.drop_empty-requires
drop_empty-requires c =
    let P : List (Key × Room Row) → Type 0 = λ ls. c.args.place.line < length ls in
    let count = length-set_value_at c.args.self.now.lines c.args.place.line c.remove.ensures.0 in
    subst P (sym c.remove.ensures.1.0) (rw count c.requires.line)

pub returns-clause-left : goal.returns-clause-left
returns-clause-left c = λ field n m holds first.
    let next = c.remove.ensures in
    let out = taken_out field n m c.args.place.line c.args.place.row c.args.self.now.lines c.remove.new.self.lines next.0 first next.1.0 next.1.1 holds in
    let kept = c.drop_empty.ensures.kept field n out.1 in
    (kept.0 ∙ out.0, kept.1)

pub returns-clause-full : goal.returns-clause-full
returns-clause-full c = λ full.
    let next = c.remove.ensures in
    let B : List (Key × Room Row) → Type 0 = λ ls. FullBut c.args.place.line ls in
    c.drop_empty.ensures.full (subst B (sym next.1.0) (full-set_but c.args.self.now.lines c.args.place.line next.0 full))
