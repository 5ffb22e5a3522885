use Rattle.std.proofs.Common.{refl, ◌∙◌, inl}
use Rattle.cl_print.specs.Writing.{canonical}
use Rattle.clinda.proofs.Sayings.{resaid}
use Rattle.clinda.proofs.print.say_tree.Goals as goal

pub returns-in-Ok : goal.returns-in-Ok
returns-in-Ok g c = inl (resaid c.as_slice.result.now (canonical c.args.unit.now.items) 0 c.say.result c.say.result (c.as_slice.ensures ∙ c.in-Ok.ensures.text) refl c.say.ensures)
