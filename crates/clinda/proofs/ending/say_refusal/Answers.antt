use Rattle.std.proofs.Common.{refl, ◌∙◌, inl}
use Rattle.clinda.specs.Refusals.{printed, refused}
use Rattle.clinda.proofs.Sayings.{resaid}
use Rattle.clinda.proofs.ending.say_refusal.Goals as goal

pub returns-in-Ok : goal.returns-in-Ok
returns-in-Ok g c = inl (resaid c.as_bytes.result.now (refused (printed c.args.source.now c.args.refusal)) 2 c.say.result c.say.result (c.as_bytes.ensures ∙ c.in-Ok.ensures) refl c.say.ensures)
