use Rattle.std.proofs.Common.{ap, ◌∙◌}
use Rattle.cl_value.specs.declared.value.Value.TheVariants.{Text}
use Rattle.cl_walk.specs.Around.{fixed_in}
use Rattle.cl_walk.proofs.expression.text.Goals as goal

pub returns-in-Some : goal.returns-in-Some
returns-in-Some c = ap Text (c.in-Some.ensures c.args.on.now.depth ∙ ap (fixed_in c.args.on.now).text c.as_slice.ensures)
