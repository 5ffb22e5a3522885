use Rattle.std.proofs.Common.{is_some, ap, ◌∙◌}
use Rattle.cl_value.specs.Replay.{first_match}
use Rattle.cl_keyed.proofs.Asked.{told}
use Rattle.cl_keyed.specs.Keeping.{Kept}
use Rattle.cl_keyed.proofs.keyed.KeyedTupleStore.find.Goals as goal

pub returns-clause-value : goal.returns-clause-value
returns-clause-value g c =
    c.is_some.ensures ∙ (told c.find.result c.self.inside.field c.self.inside.added c.self.inside.table.lines c.args.template.now.items c.find.new.into.items c.self.invariant.holds c.find.ensures.found c.find.ensures.none
    ∙ ap (λ (k : Kept). is_some (first_match k.tuples c.args.template.now.items)) c.self.view_is)
