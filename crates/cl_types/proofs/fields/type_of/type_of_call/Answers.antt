use Rattle.std.proofs.Common.{◌∙◌, ap}
use Rattle.cl_types.specs.declared.context.Purpose.TheVariants as purposes
use Rattle.cl_types.specs.Declarations.{look_up}
use Rattle.cl_types.proofs.Judging.{call_typed}
use Rattle.cl_types.proofs.fields.type_of.type_of_call.Goals as goal

pub returns : goal.returns
returns c = call_typed c.args.part.now purposes.Value c.args.scopes.now _ _ (c.look_up.ensures ∙ ap (λ name. look_up name c.args.scopes.now) c.as_slice.ensures) c.called_type.ensures
