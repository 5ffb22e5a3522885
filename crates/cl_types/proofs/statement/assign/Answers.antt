use Rattle.cl_types.specs.Expressions.{judged_place}
use Rattle.cl_types.specs.Statements.{change_notes}
use Rattle.cl_types.specs.declared.context.Access.TheVariants as accesses
use Rattle.cl_types.proofs.Walking.{two_noted}
use Rattle.cl_types.proofs.statement.assign.Goals as goal

pub returns : goal.returns
returns c = two_noted (judged_place c.args.part.now.place accesses.Write c.args.scopes.now).notes (change_notes c.args.scopes.now c.args.part.now.change) c.args.journal.now _ _ c.place.ensures.notes c.change.ensures
