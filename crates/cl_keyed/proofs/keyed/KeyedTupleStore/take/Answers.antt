use Rattle.std.proofs.Common.{is_some, ap, sym, ◌∙◌}
use Rattle.cl_store.proofs.Matches.{view_within}
use Rattle.cl_value.specs.Replay.{first_match}
use Rattle.cl_keyed.proofs.Finds.{is_some-found}
use Rattle.cl_keyed.proofs.Keeps.{stands-taken}
use Rattle.cl_keyed.specs.Keeping.{Kept}
use Rattle.cl_keyed.specs.Rows.{tuple_of, content_of}
use Rattle.cl_keyed.specs.Tables.{items_at}
use Rattle.cl_keyed.proofs.keyed.KeyedTupleStore.take.Goals as goal

pub take_out-requires-clause-row : goal.take_out-requires-clause-row
take_out-requires-clause-row g c =
    let at = c.in-Some.ensures.place in
    view_within tuple_of (items_at c.self.inside.table.lines c.in-Some.place.line) c.args.template.now.items c.in-Some.place.row at.first

pub invariant_of-self : goal.invariant_of-self
invariant_of-self g c =
    let holds = c.self.invariant.holds in
    stands-taken c.self.inside.field c.self.inside.added c.self.inside.count c.self.inside.table c.take_out.new.self c.self.inside.fresh c.self.inside.ready c.args.template.now.items c.find.new.into.items c.self.invariant
    (c.in-Some.ensures.found c.self.inside.added holds)
    (c.take_out.ensures.left c.self.inside.field c.self.inside.added c.args.template.now.items holds c.in-Some.ensures.place)
    c.take_out.ensures.full

pub returns-in_default-clause-value : goal.returns-in_default-clause-value
returns-in_default-clause-value g c =
    let content = content_of c.self.inside.added c.self.inside.table.lines in
    let none = c.in_default.ensures.none c.self.inside.added c.self.invariant.holds in
    sym (is_some-found content c.args.template.now.items ∙ ap is_some none) ∙ ap (λ (k : Kept). is_some (first_match k.tuples c.args.template.now.items)) c.self.view_is
