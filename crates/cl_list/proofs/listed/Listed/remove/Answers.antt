use Rattle.cl_value.specs.Fields.{Fields}
use Rattle.cl_store.proofs.Matches.{map-remove}
use Rattle.cl_list.proofs.listed.Listed.remove.Goals as goal

pub returns : goal.returns
returns c = rw (← c.self.view_is, c.remove.ensures.items) (map-remove (λ (t : Fields). t.items) _ c.args.place)
