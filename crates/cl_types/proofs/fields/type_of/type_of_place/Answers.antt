use Rattle.std.proofs.Common.{◌∙◌, ap}
use Rattle.cl_types.specs.Declarations.{look_up}
use Rattle.cl_types.proofs.Judging.{place_typed}
use Rattle.cl_types.proofs.fields.type_of.type_of_place.Goals as goal

pub returns : goal.returns
returns c = place_typed c.args.part.now c.args.access c.args.scopes.now _ _ _ c.is_some.ensures (c.look_up-what.ensures ∙ ap (λ name. look_up name c.args.scopes.now) c.as_slice.ensures) c.place_type.ensures
