use Rattle.cl_types.proofs.Parts.{declared_function}
use Rattle.cl_types.proofs.item.declare_function.Goals as goal

pub returns : goal.returns
returns c = declared_function c.declare.result c.args.part.now c.as_slice.result.now _ c.args.scopes.now c.declare.new.self c.in_ok-function_type.ensures c.as_slice.ensures c.declare.ensures.declared
