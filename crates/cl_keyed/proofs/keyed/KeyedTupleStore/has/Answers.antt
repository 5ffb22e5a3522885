use Rattle.std.proofs.Common.{is_some, ap, ◌∙◌}
use Rattle.cl_value.specs.Replay.{first_match}
use Rattle.cl_keyed.specs.Keeping.{Kept}
use Rattle.cl_keyed.proofs.keyed.KeyedTupleStore.has.Goals as goal

pub returns-clause-value : goal.returns-clause-value
returns-clause-value g c =
    c.has.ensures.value c.self.inside.added c.self.invariant.holds ∙ ap (λ (k : Kept). is_some (first_match k.tuples c.args.template.now.items)) c.self.view_is
