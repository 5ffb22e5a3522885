use Rattle.std.proofs.Common.{◌∙◌, ap}
use Rattle.cl_types.specs.Items.{parameter_types}
use Rattle.cl_types.proofs.item.function_type.Goals as goal

pub returns : goal.returns
returns c = ap (λ ps. record { result = c.args.part.now.result; parameters = ps }) (c.in_ok-parameter_types.ensures ∙ ap parameter_types c.as_slice.ensures)
