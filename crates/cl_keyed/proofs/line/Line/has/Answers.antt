use Rattle.std.proofs.Common.{map, is_some, ap, sym, ◌∙◌}
use Rattle.cl_value.specs.Replay.{first_match}
use Rattle.cl_ground.specs.Room.{Room}
use Rattle.cl_keyed.proofs.Places.{tuples-of_rows}
use Rattle.cl_keyed.specs.Rows.{Row, tuple_of}
use Rattle.cl_keyed.proofs.line.Line.has.Goals as goal

pub returns-clause-value : goal.returns-clause-value
returns-clause-value g c =
    c.is_some.ensures ∙ ap is_some (c.search.ensures.place ∙ (ap (λ ts. first_match ts c.args.template.now.items) (sym (tuples-of_rows c.self.inside.rows.items)) ∙ ap (λ (l : Room Row). first_match (map tuple_of l.items) c.args.template.now.items) c.self.view_is))
